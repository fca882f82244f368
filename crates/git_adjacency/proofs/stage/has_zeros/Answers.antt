use Rattle.std.proofs.Common.{ℕ, List, subst}
use Rattle.std.specs.Prelude.{◌↔◌, IsTrue}
use Rattle.git_adjacency.proofs.Marking.{marks_flat, flat_marks}
use Rattle.git_adjacency.specs.Marks.{HasMark}
use Rattle.git_adjacency.proofs.stage.has_zeros.Goals as goal

pub returns : goal.returns
returns c =
    let r = c.args.r.now in let s = c.args.s.now in let t = c.args.t.now in let A = c.args.upto.now in let w = c.args.width in
    let e1 = subst (λ (u : List ℕ). IsTrue c.has_common.result ↔ ((j : ℕ) → HasMark u j → HasMark c.deref-2.result.now j → HasMark c.deref-3.result.now j)) c.deref.ensures.value c.has_common.ensures in
    let e2 = subst (λ (u : List ℕ). IsTrue c.has_common.result ↔ ((j : ℕ) → HasMark r.zeros.items j → HasMark u j → HasMark c.deref-3.result.now j)) c.deref-2.ensures.value e1 in
    let e3 = subst (λ (u : List ℕ). IsTrue c.has_common.result ↔ ((j : ℕ) → HasMark r.zeros.items j → HasMark s.zeros.items j → HasMark u j)) c.deref-3.ensures.value e2 in (
      λ f. marks_flat A w r.vector s.vector t.vector r.zeros.items s.zeros.items t.zeros.items c.requires.r c.requires.s c.requires.t (e3.0 f),
      λ f. e3.1 (flat_marks A w r.vector s.vector t.vector r.zeros.items s.zeros.items t.zeros.items c.requires.r c.requires.s c.requires.t f),
    )
