use Rattle.std.proofs.Common.{sym, Some, None, Option}
use Rattle.std.specs.Prelude.{IfNone}
use Rattle.git_reduce.proofs.division.next_multiple.Goals as goal

pub returns-clause-none : goal.returns-clause-none
returns-clause-none c = weaker c.multiple_at.result (λ h. h c.args.dividend.now (sym c.lead.ensures)) c.multiple_at.ensures.none
  where
    weaker : {X A B : Type 0} (o : Option X) → (A → B) → IfNone o A → IfNone o B
    weaker None f h = f h
    weaker (Some x) f h = h
