use Rattle.std.proofs.Common.{◌≡◌, ◌++◌, drop}
use Rattle.std.specs.List.{flat_map}
use Rattle.std.specs.String.{string_bytes}
use Rattle.git_certtext.specs.CertificateText.{block_text}
use Rattle.git_certtext.proofs.printing.push_blocks.Given as goal

abbrev pub invariant-loop-verdict : goal.invariant-loop-verdict
invariant-loop-verdict l = string_bytes l.out ++ flat_map block_text (drop l.verdict-index l.verdicts) ≡ string_bytes l.fn.out ++ flat_map block_text l.verdicts
