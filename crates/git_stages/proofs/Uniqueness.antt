-- A list is wide first at one stage, with one evidence, or never.
use Rattle.std.proofs.Common.{◌≡◌, ℕ, ◌<◌, List, [], refl, sym, ap, subst, inl, inr}
use Rattle.std.specs.Cmp.Lexicographic.{slice_cmp}
use Rattle.std.specs.Ordering.{int_cmp}
use Rattle.git_defs.specs.Vectors.{Vector}
use Rattle.git_stages.proofs.Listed.{vectors_total, data_of, turned, equal_same}
use Rattle.git_stages.proofs.Once.{stage_once, same_number}
use Rattle.git_stages.proofs.Prepares.{prepared_once}
use Rattle.git_stages.proofs.Splits.{split_once}
use Rattle.git_stages.specs.Eliminations.{IsSplit}
use Rattle.git_stages.specs.Stages.{IsStage}
use Rattle.git_stages.specs.Wide.{IsLeastLarge, IsWhat, IsFirstWide, IsWideStage, IsWideAt, NeverWide}
use Rattle.git_stages.specs.declared.wide.WideWhat.{WideWhat}
use Rattle.git_stages.specs.declared.wide.WideWhat.TheVariants.{Entry, Many}

-- the least large vector is one
least_once : (vs : List Vector) (u v : Vector) → IsLeastLarge vs u → IsLeastLarge vs v → u ≡ v
least_once vs u v p q = elim (data_of (slice_cmp int_cmp u v)) [
  | inl less ↦ absurd (q.least u p.member p.large less)
  | inr o ↦ elim o [
    | inl same ↦ equal_same u v same
    | inr more ↦ absurd (p.least v q.member q.large (turned (slice_cmp int_cmp v u) (slice_cmp int_cmp u v) (vectors_total.antisymm v u) more))
  ]
]

evidence_once : (vs : List Vector) (what other : WideWhat) → IsWhat vs what → IsWhat vs other → what ≡ other
evidence_once vs (Entry u) (Entry v) p q = ap Entry (least_once vs u v p q)
evidence_once vs (Entry u) Many p q = absurd (q u p.member p.large)
evidence_once vs Many (Entry v) p q = absurd (p v q.member q.large)
evidence_once vs Many Many p q = refl

-- the second is seen over the first's base and rest
record Beside (k : ℕ) (base rest : List Vector) (j : ℕ) (vs : List Vector) : Type 0 where
  stage : IsStage k base rest j vs
  wide : IsWideStage k j vs
  first : (i : ℕ) (us : List Vector) → i < j → IsStage k base rest i us → IsWideStage k i us → ⊥

record SameSplit (base rest other_base other_rest : List Vector) : Type 0 where
  bases : other_base ≡ base
  rests : other_rest ≡ rest

same_split : (k : ℕ) (given p q base rest other_base other_rest : List Vector) → p ≡ q → IsSplit k [] p base rest → IsSplit k [] q other_base other_rest
    → SameSplit base rest other_base other_rest
same_split k given p q base rest other_base other_rest e s t =
    let o = split_once k [] q base rest other_base other_rest (subst (λ (u : List Vector). IsSplit k [] u base rest) e s) t in
    record { bases = sym o.0; rests = sym o.1 }

beside : (k : ℕ) (given : List Vector) (j i : ℕ) (vs us : List Vector) (f : IsFirstWide k given j vs) → IsFirstWide k given i us → Beside k f.base f.rest i us
beside k given j i vs us f g =
    let s = same_split k given f.prepared g.prepared f.base f.rest g.base g.rest (prepared_once given f.prepared g.prepared f.is_prepared g.is_prepared) f.split g.split in
    let along : (n : ℕ) (ws : List Vector) → IsStage k g.base g.rest n ws → IsStage k f.base f.rest n ws
    = (λ n ws t. subst (λ (b : List Vector). IsStage k b f.rest n ws) s.bases (subst (λ (r : List Vector). IsStage k g.base r n ws) s.rests t)) in
    let back : (n : ℕ) (ws : List Vector) → IsStage k f.base f.rest n ws → IsStage k g.base g.rest n ws
    = (λ n ws t. subst (λ (b : List Vector). IsStage k b g.rest n ws) (sym s.bases) (subst (λ (r : List Vector). IsStage k f.base r n ws) (sym s.rests) t)) in
    record { stage = along i us g.stage; wide = g.wide; first = λ n ws h t. g.first n ws h (back n ws t) }

pub wide_once : (k : ℕ) (given : List Vector) (stage other : ℕ) (what other_what : WideWhat) → IsWideAt k given stage what → IsWideAt k given other other_what
    → (stage ≡ other) × (what ≡ other_what)
wide_once k given stage other what other_what p q =
    let f = p.first in
    let b = beside k given stage other p.vectors q.vectors f q.first in
    let e : stage ≡ other = same_number stage other (λ h. b.first stage p.vectors h f.stage f.wide) (λ h. f.first other q.vectors h b.stage b.wide) in
    let same : p.vectors ≡ q.vectors = stage_once k f.base f.rest other p.vectors q.vectors (subst (λ (n : ℕ). IsStage k f.base f.rest n p.vectors) e f.stage) b.stage in
    (e, evidence_once q.vectors what other_what (subst (λ (u : List Vector). IsWhat u what) same p.evidence) q.evidence)

pub wide_not_never : (k : ℕ) (given : List Vector) (stage : ℕ) (what : WideWhat) → IsWideAt k given stage what → NeverWide k given → ⊥
wide_not_never k given stage what p n =
    let f = p.first in
    let s = same_split k given n.prepared f.prepared n.base n.rest f.base f.rest (prepared_once given n.prepared f.prepared n.is_prepared f.is_prepared) n.split f.split in
    let along : IsStage k n.base n.rest stage p.vectors
    = subst (λ (b : List Vector). IsStage k b n.rest stage p.vectors) s.bases (subst (λ (r : List Vector). IsStage k f.base r stage p.vectors) s.rests f.stage) in
    n.never stage p.vectors along f.wide
