-- A reader's journal, from one moment to a later one.
use Rattle.std.proofs.Common.{sym, ap, ◌∙◌}
use Rattle.items.proofs.Growing.{growing_keeps_lem}
use Rattle.journals.specs.Handing.{ItemStays, told}

pub item_stays_lem : ItemStays
item_stays_lem n journal more i h =
    ap told (growing_keeps_lem n journal more (λ none. let no = sym (ap told none) ∙ h in absurd (cc))) ∙ h
