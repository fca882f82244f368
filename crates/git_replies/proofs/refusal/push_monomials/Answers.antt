use Rattle.std.proofs.Common.{◌∷◌, append_assoc}
use Rattle.std.specs.Prelude.{codes}
use Rattle.git_replies.specs.Refusals.{exponent_words}
use Rattle.git_lines.proofs.SpacedLemmas.{after_spaces-append}
use Rattle.git_replies.proofs.refusal.push_monomials.Goals as goal

pub returns : goal.returns
returns c =
    rw (after_spaces-append (exponent_words c.args.r c.args.first.now) (codes ";" ∷ exponent_words c.args.r c.args.second.now), c.in_ok-push_exponents-2.ensures, c.in_ok-push_str.ensures.bytes, c.in_ok-push_exponents.ensures, c.in_ok-write.ensures.bytes)
    (simp append_assoc)
