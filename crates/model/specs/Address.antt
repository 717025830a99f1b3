-- Which calls name something that is there.
use Rattle.std.specs.Prelude.{Bool, true, false, cond, length, ◌==◌, nat_lt}
use Rattle.model.specs.declared.Call.{Call}
use Rattle.model.specs.declared.Call.TheVariants.{Step, Feed, Checkpoint, Commit, Crash}
use Rattle.model.specs.Graph.{Topology, kind_at, edge_at, is_source}

-- the worker is there, and the edge is there and reaches it; only a source is fed
abbrev pub addressed : Topology → Call → Bool
addressed g (Step w e) = cond (nat_lt w (length g.kinds)) (cond (nat_lt e (length g.edges)) ((edge_at g e).to == w) false) false
addressed g (Feed w) = cond (nat_lt w (length g.kinds)) (is_source (kind_at g w)) false
addressed g (Checkpoint w) = nat_lt w (length g.kinds)
addressed g (Commit c) = true
addressed g Crash = true
