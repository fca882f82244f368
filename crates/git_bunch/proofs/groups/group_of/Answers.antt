use Rattle.std.proofs.Common.{◌<◌, ◌^◌, List, length, subst, ℕ}
use Rattle.std.specs.Prelude.{◌↔◌, Contains}
use Rattle.git_defs.specs.Cones.{Cut, SameSet}
use Rattle.git_defs.specs.Faces.{face_cone}
use Rattle.git_orbit.specs.Keys.{HasKey}
use Rattle.git_lemmas.proofs.Members.{all_member, as_member}
use Rattle.git_stages.proofs.Shorts.{short_length}
use Rattle.git_bunch.specs.Least.{AreLeastOf}
use Rattle.git_bunch.proofs.Columns.{cone_by_key}
use Rattle.git_bunch.proofs.groups.group_of.Goals as goal

pub returns : goal.returns
returns c =
    let k = c.args.k in
    let Q = c.args.columns.now in
    let d = c.args.cone.now in
    let all = c.in_ok-all.all.items in
    let least = c.in_ok-least.least.items in
    let by : (m : ℕ) → Contains c.args.free.now m → HasKey c.in_ok-key.key.held c.in_ok-key.key.along.items m ↔ SameSet (Cut k d.facets) (face_cone k Q m) = λ m h.
    cone_by_key k Q d.rays d.facets (short_length k Q c.requires.columns) c.in_ok-key.ensures.canon m c.in_ok-key.key.held c.in_ok-key.key.along.items
    (all_member (λ (n : ℕ). n < 2 ^ length Q) m c.args.free.now c.requires.faces.in_range (as_member c.args.free.now h)) c.in_ok-key.ensures.key in
    let are = subst (λ (l : List ℕ). AreLeastOf l least) c.deref.ensures.value c.in_ok-least.ensures in
    let each = c.in_ok-all.ensures in
    record {
      all = λ m. (λ h. let p = (each m).0 h in (p.0, (by m p.0).0 p.1), λ p. (each m).1 (p.0, (by m p.0).1 p.1));
      least = λ m h. ((are.are.each m).0 h).holds;
      covers = are.covers;
    }
