use Rattle.std.proofs.Common.{◌≡◌, ◌∙◌, ◌++◌, List, [], ℕ, refl, sym, subst}
use Rattle.std.specs.Prelude.{IfOk}
use Rattle.std.proofs.lemmas.List.{append-nil}
use Rattle.std.proofs.lemmas.Result.{IfOk-weaker}
use Rattle.git_listing.specs.Views.{listing_of}
use Rattle.git_answers.specs.Verdicts.{IsTail}
use Rattle.git_answers.specs.Fan.{written}
use Rattle.git_replies.specs.Counts.{counts_text}
use Rattle.git_listing.specs.ListingText.{listing_text}
use Rattle.git_answers.specs.declared.output.Output.{Output}
use Rattle.git_fan.proofs.writing.listed_text.Goals as goal

pub returns-in-Plain : goal.returns-in-Plain
returns-in-Plain c v verdicts =
    subst (λ (o : Output). IfOk c.print.result (λ text. (after : List ℕ) × IsTail v (written o (listing_of c.args.listing.now)).tail after × (text.items ≡ (written o (listing_of c.args.listing.now)).text ++ after))) (sym c.in-Plain.is)
    (IfOk-weaker c.print.result _ _ (λ text h. ([], refl, h ∙ sym (append-nil (listing_text (listing_of c.args.listing.now))))) c.print.ensures)

pub returns-in-Certified : goal.returns-in-Certified
returns-in-Certified c v verdicts =
    subst (λ (o : Output). IfOk c.certified_listing.result (λ text. (after : List ℕ) × IsTail v (written o (listing_of c.args.listing.now)).tail after × (text.items ≡ (written o (listing_of c.args.listing.now)).text ++ after))) (sym c.in-Certified.is) (c.certified_listing.ensures v verdicts)

pub returns-in-Counted : goal.returns-in-Counted
returns-in-Counted c v verdicts =
    subst (λ (o : Output). IfOk c.counts_line.result (λ text. (after : List ℕ) × IsTail v (written o (listing_of c.args.listing.now)).tail after × (text.items ≡ (written o (listing_of c.args.listing.now)).text ++ after))) (sym c.in-Counted.is)
    (IfOk-weaker c.counts_line.result _ _ (λ text h. ([], refl, h ∙ sym (append-nil (counts_text (listing_of c.args.listing.now))))) c.counts_line.ensures)
