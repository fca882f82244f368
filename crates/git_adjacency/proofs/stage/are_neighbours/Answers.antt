use Rattle.std.proofs.Common.{List, ◌++◌, sym, ◌∙◌, subst}
use Rattle.std.specs.Prelude.{◌↔◌, IsTrue}
use Rattle.git_geometry.specs.Zeros.{Adjacent}
use Rattle.git_adjacency.proofs.Nexts.{adjacent_join, adjacent_part}
use Rattle.git_adjacency.specs.Marks.{vectors}
use Rattle.git_adjacency.specs.Sides.{all_of}
use Rattle.git_adjacency.specs.declared.ray.Ray.{Ray}
use Rattle.git_adjacency.proofs.stage.are_neighbours.Goals as goal
use Rattle.std.proofs.lemmas.List.Elements.{Contains-append_left, Contains-append_right}

pub returns-then-not-on_level : goal.returns-then-not-on_level
returns-then-not-on_level c =
    let A = c.args.upto.now in let S = c.args.sides.now in let r = c.args.r.now.vector in let s = c.args.s.now.vector in
    let a = vectors S.above.items in let l = vectors S.level.items in let d = vectors S.below.items in
    let e = subst (λ (u : List Ray). IsTrue c.is_adjacent-on_level.result ↔ Adjacent A (vectors u) r s) c.deref.ensures.value c.is_adjacent-on_level.ensures in
    (λ f. absurd (cc f), λ f. sym c.if-not-on_level.true ∙ e.1 (adjacent_part A l (all_of S) r s (λ t m. Contains-append_right a (l ++ d) t (Contains-append_left l d t m)) f))

pub returns-then-not-on_above : goal.returns-then-not-on_above
returns-then-not-on_above c =
    let A = c.args.upto.now in let S = c.args.sides.now in let r = c.args.r.now.vector in let s = c.args.s.now.vector in
    let a = vectors S.above.items in let l = vectors S.level.items in let d = vectors S.below.items in
    let e = subst (λ (u : List Ray). IsTrue c.is_adjacent-on_above.result ↔ Adjacent A (vectors u) r s) c.deref-2.ensures.value c.is_adjacent-on_above.ensures in
    (λ f. absurd (cc f), λ f. sym c.if-not-on_above.true ∙ e.1 (adjacent_part A a (all_of S) r s (λ t m. Contains-append_left a (l ++ d) t m) f))

pub returns : goal.returns
returns c =
    let A = c.args.upto.now in let S = c.args.sides.now in let r = c.args.r.now.vector in let s = c.args.s.now.vector in
    let a = vectors S.above.items in let l = vectors S.level.items in let d = vectors S.below.items in
    let e = subst (λ (u : List Ray). IsTrue c.is_adjacent-on_below.result ↔ Adjacent A (vectors u) r s) c.deref-3.ensures.value c.is_adjacent-on_below.ensures in
    let el = subst (λ (u : List Ray). IsTrue c.is_adjacent-on_level.result ↔ Adjacent A (vectors u) r s) c.deref.ensures.value c.is_adjacent-on_level.ensures in
    let ea = subst (λ (u : List Ray). IsTrue c.is_adjacent-on_above.result ↔ Adjacent A (vectors u) r s) c.deref-2.ensures.value c.is_adjacent-on_above.ensures in (
      λ f. adjacent_join A a l d r s (ea.0 c.if-not-on_above.false) (el.0 c.if-not-on_level.false) (e.0 f),
      λ f. e.1 (adjacent_part A d (all_of S) r s (λ t m. Contains-append_right a (l ++ d) t (Contains-append_right l d t m)) f),
    )
