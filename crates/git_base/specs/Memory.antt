-- What contracts see of a source and a sink in memory.
use Rattle.std.specs.Prelude.{ℕ, List}

-- a source of bytes: those left, how many a read gives at most, the numbers of the reads that
-- fail, and how many reads there were and how many failed
pub record Feed : Type 0 where
  pub left : List ℕ
  pub piece : ℕ
  pub fails : List ℕ
  pub calls : ℕ
  pub faults : ℕ

-- a sink: the bytes written, how many it holds and how many a write takes at most, the numbers of
-- the writes that fail, and how many writes there were and how many failed
pub record Store : Type 0 where
  pub written : List ℕ
  pub room : ℕ
  pub piece : ℕ
  pub fails : List ℕ
  pub calls : ℕ
  pub faults : ℕ
