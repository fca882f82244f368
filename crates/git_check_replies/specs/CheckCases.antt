-- What is answered of bytes by checking them, by cases in order.
use Rattle.std.specs.Prelude.{◌≡◌, ℕ, ◌+◌, List}
use Rattle.git_base.specs.declared.status.Status.TheVariants as statuses
use Rattle.git_asked.specs.declared.finding.Reason.{Reason}
use Rattle.git_asked.specs.Findings.{FailsFirst}
use Rattle.git_check.specs.Checks.{IsValid, section_of}
use Rattle.git_check.specs.Texts.{AsksText}
use Rattle.git_check.specs.declared.checked.Section.{Section}
use Rattle.git_check.specs.declared.checked.Section.TheVariants.{Listing, Certs}
use Rattle.git_checktext.specs.CheckText.{CheckText}
use Rattle.git_checktext.specs.Reads.{reads_check_text}
use Rattle.git_replies.specs.Cases.{Case, ◌otherwise◌, says}
use Rattle.git_answers.specs.Ends.{Reply}
use Rattle.git_check_replies.specs.CheckLines.{invalid_text, valid_text}

-- how many lines of the text stand before a part of it
abbrev pub lines_before : CheckText → Section → ℕ
lines_before x Listing = x.before_listing
lines_before x Certs = x.before_certs

-- the listing is that of the input, and there is one accepted certificate for each full face
abbrev pub is_valid : CheckText → Case
is_valid x o = IsValid x.input x.listing x.certs × (o ≡ says statuses.Done valid_text)

-- the first reason for which this is not so, at the first line at which it holds
abbrev pub is_invalid : CheckText → Case
is_invalid x o =
    (reason : Reason) × (line : ℕ) × FailsFirst (AsksText x.input x.listing x.certs) reason line
    × (o ≡ says statuses.Invalid (invalid_text (lines_before x (section_of reason) + line) reason))

-- what is answered of a check text
abbrev pub checks : CheckText → Case
checks x = is_valid x otherwise is_invalid x

-- what is answered of any bytes: they are no check text, or the cases of what they say
abbrev pub check_case : List ℕ → Case
check_case bytes = reads_check_text checks bytes

-- its status and its text; no certificates follow
abbrev pub check_reply : List ℕ → Reply
check_reply bytes s text = check_case bytes (says s text)
