use Rattle.std.proofs.Common.{List, refl, sym, ◌∙◌, subst, arith}
use Rattle.std.specs.Prelude.{All}
use Rattle.std.proofs.lemmas.List.{take_all}
use Rattle.std.proofs.lemmas.List.Elements.{All-more}
use Rattle.git_defs.specs.Vectors.{Vector}
use Rattle.git_stages.specs.Short.{IsShort}
use Rattle.git_stages.proofs.large.are_short.Goals as goal

pub loop-v-preserved : goal.loop-v-preserved
loop-v-preserved c =
    All-more (IsShort c.args.k) c.args.vs.now c.loop-v.v-index c.v-item.result (omega arith) c.loop-v.invariant
    (subst (IsShort c.args.k) c.v-item.is (c.is_short.ensures.0 c.if-not-is_short.false))

pub returns-then-not-is_short : goal.returns-then-not-is_short
returns-then-not-is_short c = (
  λ f. absurd (cc f),
  λ all. sym c.if-not-is_short.true ∙ c.is_short.ensures.1 (subst (IsShort c.args.k) (sym c.v-item.is) (all c.loop-v.v-index c.v-item.result (omega arith))),
)

pub returns : goal.returns
returns c = (λ f. subst (λ (u : List Vector). All (IsShort c.args.k) u) (take_all c.loop-v.v-index c.args.vs.now c.loop-v-test.false) c.loop-v.invariant, λ all. refl)
