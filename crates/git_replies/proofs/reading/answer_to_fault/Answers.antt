use Rattle.std.proofs.Common.{◌∙◌, ℕ, ap, inl, inr}
use Rattle.std.proofs.lemmas.Result.{IfOk-weaker}
use Rattle.git_base.specs.declared.status.Status.TheVariants.{BadInput}
use Rattle.git_replies.specs.Cases.{says}
use Rattle.git_replies.specs.Refusals.{fault_text}
use Rattle.git_replies.proofs.ReadLaws.{few_pass}
use Rattle.git_replies.proofs.reading.answer_to_fault.Goals as goal

pub returns-in-Bad : goal.returns-in-Bad
returns-in-Bad c =
    IfOk-weaker c.input_refusal.result _ _ (λ a h. (
      h.0,
      inr (
        few_pass c.args.bytes.now c.requires.few,
        record {
          line = c.in-Bad.line;
          column = c.in-Bad.column;
          kind = c.in-Bad.kind;
          first = c.requires.first c.in-Bad.line c.in-Bad.column c.in-Bad.kind c.in-Bad.is;
          is = ap (says BadInput) (h.1 ∙ ap (λ (m : ℕ). fault_text m c.in-Bad.line c.in-Bad.column c.in-Bad.kind) c.announced_variables.ensures.value);
        },
      ),
    )) c.input_refusal.ensures
