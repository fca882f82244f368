use Rattle.std.proofs.Common.{sym, subst, arith, List, ◌++◌, ◌∷◌, [], ◌+◌, take, ◌^◌, append-nil}
use Rattle.std.proofs.lemmas.List.{take_all}
use Rattle.git_defs.specs.Vectors.{Vector}
use Rattle.git_ints.specs.Padded.{AreWithin}
use Rattle.git_stages.proofs.Least.{least_more, least_skip}
use Rattle.git_stages.specs.Wide.{IsLeastOf}
use Rattle.git_stages.proofs.large.least_large.Goals.{then-not-is_small, else-not-is_small}
use Rattle.git_stages.proofs.large.least_large.Goals as goal

pub loop-v-init : goal.loop-v-init
loop-v-init c = λ seen l. subst (λ (u : List Vector). IsLeastOf u c.args.best) (sym (append-nil seen)) l

pub loop-v-preserved : goal.loop-v-preserved
loop-v-preserved c =
    let vs = c.args.vs.now in
    let i = c.loop-v.v-index in
    let d = c.v-item.result in
    elim c.if-not-is_small.branch [
      | then-not-is_small w ↦ λ seen l. subst (IsLeastOf (seen ++ take (i + 1) vs)) (sym w.least-is)
          (least_more seen vs i d w.lesser-least.result (omega arith) (subst (λ (u : Vector). IsLeastOf ((seen ++ take i vs) ++ u ∷ []) w.lesser-least.result) c.v-item.is (w.lesser-least.ensures (seen ++ take i vs) (c.loop-v.invariant seen l))))
      | else-not-is_small w ↦ λ seen l. subst (IsLeastOf (seen ++ take (i + 1) vs)) (sym w.least-is)
          (least_skip seen vs i d c.loop-v.least (omega arith) (c.loop-v.invariant seen l) (subst (AreWithin (2 ^ 40)) c.v-item.is (c.is_small.ensures.0 w.if-not-is_small.false)))
    ]

pub returns : goal.returns
returns c = λ seen l. subst (λ (u : List Vector). IsLeastOf (seen ++ u) c.loop-v.least) (take_all c.loop-v.v-index c.args.vs.now c.loop-v-test.false) (c.loop-v.invariant seen l)
