use Rattle.std.proofs.Common.{ℕ, List, subst}
use Rattle.std.specs.Prelude.{◌↔◌, IsTrue}
use Rattle.git_adjacency.proofs.Marking.{marks_flat, flat_marks}
use Rattle.git_adjacency.specs.Marks.{HasMark}
use Rattle.git_canon.proofs.dropping.is_dominated.Goals as goal

pub returns : goal.returns
returns c =
    let r = c.args.r.now in let s = c.args.s.now in let A = c.args.inequalities.now in let w = c.args.width in
    let e1 = subst (λ (u : List ℕ). IsTrue c.has_common.result ↔ ((j : ℕ) → HasMark u j → HasMark c.deref-2.result.now j → HasMark c.deref-3.result.now j)) c.deref.ensures.value c.has_common.ensures in
    let e2 = subst (λ (u : List ℕ). IsTrue c.has_common.result ↔ ((j : ℕ) → HasMark r.zeros.items j → HasMark u j → HasMark c.deref-3.result.now j)) c.deref-2.ensures.value e1 in
    let e3 = subst (λ (u : List ℕ). IsTrue c.has_common.result ↔ ((j : ℕ) → HasMark r.zeros.items j → HasMark r.zeros.items j → HasMark u j)) c.deref-3.ensures.value e2 in (
      λ f. record { zeros = λ a m z. marks_flat A w r.vector r.vector s.vector r.zeros.items r.zeros.items s.zeros.items c.requires.r c.requires.r c.requires.s (e3.0 f) a m (z, z) },
      λ d. e3.1 (flat_marks A w r.vector r.vector s.vector r.zeros.items r.zeros.items s.zeros.items c.requires.r c.requires.r c.requires.s (λ a m z. d.zeros a m z.0)),
    )
