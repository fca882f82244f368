use Rattle.git_words.proofs.OneSetting.{joined_by}
use Rattle.git_words.proofs.settings.joined.Goals as goal

pub returns : goal.returns
returns c = joined_by c.args.name.now c.args.word.now c.in_ok-rest.rest.now c.in_ok-rest.ensures c.after_equals.result c.after_equals.ensures
