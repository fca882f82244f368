use Rattle.std.proofs.Common.{◌≤◌, ◌+◌, ℕ, List, subst, sym, ◌∙◌, arith}
use Rattle.std.specs.Prelude.{◌↔◌, IsTrue}
use Rattle.git_adjacency.proofs.Counting.{marked_zeros, marked_zeros_long, marked_zeros_all}
use Rattle.git_adjacency.specs.Marks.{shared}
use Rattle.git_adjacency.proofs.stage.meet.Goals as goal

pub returns-then-not-share_enough : goal.returns-then-not-share_enough
returns-then-not-share_enough c =
    let k = c.args.k in let A = c.args.upto.now in let w = c.args.width in let r = c.args.r.now in let s = c.args.s.now in
    let e1 = subst (λ (u : List ℕ). IsTrue c.share_enough.result ↔ (k ≤ shared u c.deref-2.result.now + 2)) c.deref.ensures.value c.share_enough.ensures in
    let e2 = subst (λ (u : List ℕ). IsTrue c.share_enough.result ↔ (k ≤ shared r.zeros.items u + 2)) c.deref-2.ensures.value e1 in
    let long = marked_zeros_long k A w r.vector s.vector r.zeros.items s.zeros.items c.requires.upto c.requires.r c.requires.s in (
      λ f. absurd (cc f),
      λ adjacent.
          let least = c.requires.enough adjacent (marked_zeros k A w r.vector s.vector r.zeros.items s.zeros.items c.requires.upto c.requires.r c.requires.s)
          (marked_zeros_all k A w r.vector s.vector r.zeros.items s.zeros.items c.requires.upto c.requires.r c.requires.s) in
          sym c.if-not-share_enough.true ∙ e2.1 (omega (arith, least, long)),
    )
