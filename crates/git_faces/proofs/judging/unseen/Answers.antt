use Rattle.std.proofs.Common.{List, [], ℕ, get_or, refl, sym, subst, arith}
use Rattle.std.proofs.lemmas.List.{take_all}
use Rattle.std.specs.List.{AllZip}
use Rattle.git_faces.specs.declared.judging.Found.{Found}
use Rattle.git_faces.specs.Dealing.{IsUnseen}
use Rattle.git_faces.proofs.Outcomes.{one_more_unseen}
use Rattle.git_faces.proofs.judging.unseen.Goals as goal

pub loop-place-init : goal.loop-place-init
loop-place-init c = subst (λ (fs : List Found). AllZip (λ m f. IsUnseen m f) [] fs) (sym c.new-out.ensures.items) tt

pub loop-place-preserved : goal.loop-place-preserved
loop-place-preserved c = one_more_unseen c.args.masks.now c.loop-place.out.items c.push.new.self.items c.loop-place.place (get_or c.args.masks.now c.loop-place.place 0) _ c.loop-place.invariant refl (omega arith) (record { of_mask = refl; nothing = refl }) c.in_ok-push.ensures.items

pub returns : goal.returns
returns c = subst (λ (ms : List ℕ). AllZip (λ m f. IsUnseen m f) ms c.loop-place.out.items) (take_all c.loop-place.place c.args.masks.now (omega arith)) c.loop-place.invariant
