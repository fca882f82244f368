-- An answer is that to one finding, and there is one first finding.
use Rattle.std.proofs.Common.{◌≡◌, ◌∙◌, List, refl, sym, ap}
use Rattle.std.specs.Prelude.{Option, Some, None}
use Rattle.git_grading.specs.Gradings.{IsGrading}
use Rattle.git_input.specs.Inputs.{InputValue}
use Rattle.git_listing.specs.Listings.{FitsVersion, Listing}
use Rattle.git_certtext.specs.Blocks.{Block}
use Rattle.git_asked.specs.declared.finding.Finding.{Finding}
use Rattle.git_asked.specs.Findings.{Finds}
use Rattle.git_asked.proofs.Joined.{one_finding}
use Rattle.git_check.specs.Texts.{AsksText}
use Rattle.git_check.specs.Checks.{IsChecked, checked_of}
use Rattle.git_check.specs.declared.checked.Section.{Section}
use Rattle.git_check.specs.declared.checked.Checked.{Checked}
use Rattle.git_check.specs.declared.checked.Checked.TheVariants.{Valid, Invalid}
use Rattle.git_check.proofs.Exact.{valid_exactly}

abbrev finding_of : Checked → Option Finding
finding_of Valid = None
finding_of (Invalid named line reason) = Some (record { reason = reason; line = line })

module _ (v : InputValue) (l : Listing) (bs : List Block) (g : IsGrading v.degrees.k v.degrees.columns) (version : FitsVersion l) where
  finds : (c : Checked) → IsChecked v l bs c → Finds (AsksText v l bs) (finding_of c)
  finds Valid h = (valid_exactly v l bs g version).1 h
  finds (Invalid named line reason) h = h.1

  back : (c : Checked) → IsChecked v l bs c → checked_of (finding_of c) ≡ c
  back Valid h = refl
  back (Invalid named line reason) h = ap (λ (s : Section). Invalid s line reason) (sym h.0)

  pub one_answer : (a b : Checked) → IsChecked v l bs a → IsChecked v l bs b → a ≡ b
  one_answer a b p q = sym (back a p) ∙ ap checked_of (one_finding (AsksText v l bs) (finding_of a) (finding_of b) (finds a p) (finds b q)) ∙ back b q
