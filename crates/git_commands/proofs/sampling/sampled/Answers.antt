use Rattle.std.proofs.lemmas.Result.{IfOk-weaker}
use Rattle.git_commands.proofs.Replied.{sample_replied}
use Rattle.git_commands.proofs.sampling.sampled.Goals as goal

pub returns : goal.returns
returns g c = IfOk-weaker c.answer_to_sample.result _ _ (λ a h bytes. sample_replied c.args.sample c.args.run bytes _ a.status a.text.items c.in_ok-input.ensures h) c.answer_to_sample.ensures
