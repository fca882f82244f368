use Rattle.std.proofs.Common.{refl}
use Rattle.git_faces.specs.FaceVerdicts.{IsOutcome}
use Rattle.git_faces.proofs.Outcomes.{kept_seen}
use Rattle.git_faces.proofs.judging.found_of.Goals as goal

pub returns : goal.returns
returns c = record {
  place = refl;
  seen = record {
    of_mask = refl;
    outcome = kept_seen (IsOutcome c.args.input.now.generators c.args.steps c.args.task.now.mask) c.kept-seen.result c.face_verdict-outcome.result c.kept-seen.ensures c.face_verdict-outcome.ensures;
  };
}
