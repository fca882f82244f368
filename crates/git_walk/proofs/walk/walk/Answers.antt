use Rattle.std.proofs.Common.{map, length, subst, sym, ap, ◌∙◌, List, Bool, ℕ, ◌↔◌, ◌≡◌}
use Rattle.std.proofs.lemmas.List.{length-map}
use Rattle.git_lemmas.specs.Members.{Member}
use Rattle.git_listing.specs.Views.{chamber_of}
use Rattle.git_walk.specs.Walks.{Marked}
use Rattle.git_walk.proofs.WalkLemmas.{walk_begins, walk_done}
use Rattle.git_walk.proofs.walk.walk.Goals as goal

pub walked-requires : goal.walked-requires
walked-requires c =
    let cs = map chamber_of c.args.chambers.now in
    let e : c.in_ok-marks.marks.items ≡ c.args.starts.now = c.in_ok-marks.ensures in
    let places : (i : ℕ) → Member i c.in_ok-pending.pending.items ↔ Marked c.in_ok-marks.marks.items i =
    subst (λ (m : List Bool). (i : ℕ) → Member i c.in_ok-pending.pending.items ↔ Marked m i) c.deref.ensures.value c.in_ok-pending.ensures in
    walk_begins cs (Marked c.args.starts.now) c.in_ok-marks.marks.items c.in_ok-pending.pending.items (ap length e ∙ c.requires ∙ sym (length-map c.args.chambers.now chamber_of))
    (λ i. subst (λ (m : List Bool). Marked m i ↔ Marked c.args.starts.now i) (sym e) (λ h. h, λ h. h)) places

pub returns : goal.returns
returns c =
    let cs = map chamber_of c.args.chambers.now in
    walk_done cs c.args.starts.now c.in_ok-marks-2.marks.items (c.requires ∙ sym (length-map c.args.chambers.now chamber_of)) c.in_ok-marks-2.ensures
