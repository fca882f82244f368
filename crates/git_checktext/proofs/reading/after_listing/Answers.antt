use Rattle.std.proofs.Common.{◌≡◌, ◌∙◌, ◌≤◌, ℕ, ap, refl, subst, sym, Err}
use Rattle.git_input.specs.Inputs.{InputValue}
use Rattle.git_listing.specs.Views.{listing_of}
use Rattle.git_checktext.specs.CheckText.{variables}
use Rattle.git_checktext.proofs.Parts.{text_is, certs_refused, both_counts}
use Rattle.git_checktext.proofs.reading.after_listing.Goals as goal

pub returns-in-Ok : goal.returns-in-Ok
returns-in-Ok c =
    let v = c.args.input in
    let l = listing_of c.args.listing in
    let same : c.r-r.result ≡ variables v = c.r-r.ensures.value ∙ ap (λ (x : InputValue). variables x) c.input.view_is in
    let counts = both_counts c.args.bytes.now c.args.used c.args.end l c.count_lines-before_listing.result c.count_lines.result c.requires.spelled c.count_lines-before_listing.ensures.lines c.count_lines.ensures.lines in
    let few : c.r-r.result ≤ 16 = subst (λ (n : ℕ). n ≤ 16) (sym c.r-r.ensures.value) c.r-r.ensures.grading.matrix.few_columns in
    let found = c.in-Ok.ensures.found in
    text_is c.args.bytes.now c.requires.few v c.args.used c.args.end l c.in-Ok.certs.items c.r-r.result c.count_lines-before_listing.result _ _ c.requires.head refl same few found.0 found.1 c.count_lines-before_listing.ensures.lines counts

pub returns : goal.returns
returns c =
    let v = c.args.input in
    let l = listing_of c.args.listing in
    let same : c.r-r.result ≡ variables v = c.r-r.ensures.value ∙ ap (λ (x : InputValue). variables x) c.input.view_is in
    let counts = both_counts c.args.bytes.now c.args.used c.args.end l c.count_lines-before_listing.result c.count_lines.result c.requires.spelled c.count_lines-before_listing.ensures.lines c.count_lines.ensures.lines in
    let fault = c.in-Err-BadCerts.ensures.fault c.in-Err-BadCerts.line c.in-Err-BadCerts.kind (ap Err c.in-Err-BadCerts.field-0-is) in
    let h = c.in_ok-reply-in-Err-BadCerts.ensures in
    certs_refused c.args.bytes.now c.requires.few c.in_ok-reply-in-Err-BadCerts.reply v c.args.used c.args.end l c.r-r.result _ c.in-Err-BadCerts.line c.in-Err-BadCerts.kind _ c.requires.head refl same fault counts h.0 h.1
