use Rattle.git_text.proofs.WholeTexts.{found_by, only_by, first_by}
use Rattle.git_text.proofs.input.read_input.Goals as goal

pub returns-clause-found : goal.returns-clause-found
returns-clause-found c = found_by c.args.bytes.now c.read_lines.result c.read_lines.ensures

pub returns-clause-only : goal.returns-clause-only
returns-clause-only c = only_by c.args.bytes.now c.read_lines.result c.read_lines.ensures

pub returns-clause-first : goal.returns-clause-first
returns-clause-first c = first_by c.args.bytes.now c.read_lines.result c.read_lines.ensures
