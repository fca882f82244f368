-- The second phase over the program's list of all inequalities.
use Rattle.std.proofs.Common.{◌≡◌, ℕ, ◌+◌, ◌<◌, ◌≤◌, ◌^◌, List, [], ◌∷◌, ◌++◌, length, take, drop, sym, ◌∙◌, ap, subst, arith, inl, inr, length-append}
use Rattle.std.proofs.lemmas.List.{take_all}
use Rattle.std.proofs.lemmas.List.Elements.{All-append, All-same, All-contains}
use Rattle.std.specs.Prelude.{All, Contains}
use Rattle.git_defs.specs.Vectors.{Vector, HasRank}
use Rattle.git_defs.specs.Cones.{AreRays, Cut, IsPointed}
use Rattle.git_lemmas.proofs.Members.{member_all, contained}
use Rattle.git_geometry.specs.Stages.{Exact}
use Rattle.git_stages.proofs.Ranks.{rank_is, rank_bound, rank_full}
use Rattle.git_stages.proofs.Shorts.{short_length}
use Rattle.git_stages.specs.Eliminations.{IsSplit}
use Rattle.git_stages.specs.Narrow.{IsNarrowTo}
use Rattle.git_stages.specs.Prepared.{IsSortedSet, IsPrepared}
use Rattle.git_stages.specs.Ranks.{IsRank}
use Rattle.git_stages.specs.Short.{IsShort}
use Rattle.git_stages.specs.Wide.{NeverWide, IsWideAt}
use Rattle.git_dd.proofs.Finals.{split, pointed, exact, narrow, front, back, late_wide, never_wide, are_rays}
use Rattle.git_adjacency.proofs.Nexts.{ray_in}
use Rattle.git_dd.specs.Answers.{AreRaysOf, IsFaultOf}
use Rattle.git_dd.specs.Converted.{IsConverted}
use Rattle.git_adjacency.specs.Marks.{IsRay, vectors}
use Rattle.git_elimination.specs.Progress.{Progress}
use Rattle.git_elimination.specs.Stops.{IsEarlyStop}
use Rattle.git_dd.specs.Stops.{IsLateWide, IsLateStop, IsWideFault}
use Rattle.git_dd.specs.Tights.{AreAllTight}
use Rattle.git_adjacency.specs.declared.ray.Ray.{Ray}
use Rattle.git_dd.specs.declared.answers.DdFault.{DdFault}
use Rattle.git_elimination.specs.declared.fault.StageFault.{StageFault}
use Rattle.git_elimination.specs.declared.fault.StageFault.TheVariants.{Wide, NoMemory}
use Rattle.git_stages.specs.declared.wide.WideWhat.{WideWhat}

pub split_size : (k : ℕ) (taken left base rest : List Vector) → IsSplit k taken left base rest → length base + length rest ≡ length taken + length left
split_size k taken [] base rest s = let p = ap length s.0 in let q = ap length s.1 in omega (arith, p, q)
split_size k taken (b ∷ left) base rest (inl s) = let h = split_size k (taken ++ b ∷ []) left base rest s.1 in let e = length-append taken (b ∷ []) in omega (arith, h, e)
split_size k taken (b ∷ left) base rest (inr s) = let h = split_size k taken left base s.1 s.3 in let e = ap length s.2 in omega (arith, h, e)

pub rank_at_end : (k : ℕ) (given prepared base free rays rest : List Vector) → IsPrepared given prepared → All (IsShort k) given
    → Progress k prepared (length prepared) base free rays rest → IsRank k given (length base)
rank_at_end k given prepared base free rays rest is_prepared short p = rank_is k given prepared base free rays (short_length k given short) (short_length k base p.base_short) is_prepared p.state p.from
    (λ v m. p.spanned v (subst (λ (u : List Vector). Contains u v) (sym (take_all (length prepared) prepared (omega arith))) m))

module _ (k : ℕ) (given prepared base free rays rest : List Vector) (is_prepared : IsPrepared given prepared) (short : All (IsShort k) given)
    (p : Progress k prepared (length prepared) base free rays rest) (full : length base ≡ k) (ordered : List Vector) (e : ordered ≡ base ++ rest) where
  pub front_is : take k ordered ≡ base
  front_is = ap (take k) e ∙ front k given prepared base free rays rest is_prepared short p full

  pub back_is : drop k ordered ≡ rest
  back_is = ap (drop k) e ∙ back k given prepared base free rays rest is_prepared short p full

  size : length ordered ≡ length prepared
  size = let a = ap length e in let b = length-append base rest in let c = split_size k [] prepared base rest (split k given prepared base free rays rest is_prepared short p full) in omega (arith, a, b, c)

  pub ordered_short : All (IsShort k) ordered
  ordered_short = All-same (IsShort k) ordered (base ++ rest) e (All-append (IsShort k) base rest p.base_short p.rest_short)

  pub ordered_long : k ≤ length ordered
  ordered_long = let a = ap length e in let b = length-append base rest in omega (arith, a, b, full)

  pub ordered_few : length prepared < 2 ^ 32 → length ordered < 2 ^ 32
  ordered_few h = omega (arith, h, size)

  pub ordered_pointed : IsPointed k (Cut k (take k ordered))
  ordered_pointed = subst (λ (u : List Vector). IsPointed k (Cut k u)) (sym front_is) (pointed k given prepared base free rays rest is_prepared short p full)

  pub ordered_exact : Exact k (take k ordered) rays
  ordered_exact = subst (λ (u : List Vector). Exact k u rays) (sym front_is) (exact k given prepared base free rays rest is_prepared short p full)

  pub ordered_narrow : IsNarrowTo k (take k ordered) (drop k ordered) k
  ordered_narrow = subst (λ (u : List Vector). IsNarrowTo k u (drop k ordered) k) (sym front_is) (subst (λ (u : List Vector). IsNarrowTo k base u k) (sym back_is) (narrow k given prepared base free rays rest is_prepared short p full))

  pub wide_at : (stage : ℕ) (what : WideWhat) → IsLateWide k ordered stage what → IsWideAt k given stage what
  wide_at stage what w = late_wide k given prepared base free rays rest is_prepared short p full stage what (subst (λ (u : List Vector). IsLateWide k u stage what) e w)

  pub never_at : IsNarrowTo k (take k ordered) (drop k ordered) (length ordered) → NeverWide k given
  never_at n = never_wide k given prepared base free rays rest is_prepared short p full (subst (λ (u : List Vector). IsNarrowTo k (take k u) (drop k u) (length u)) e n)

  pub rays_at : (vs list : List Vector) → Exact k ordered vs → IsSortedSet vs list → AreRays k (Cut k given) list
  rays_at vs list x t = are_rays k given prepared base free rays rest is_prepared short p full vs list (subst (λ (u : List Vector). Exact k u vs) e x) t

  pub late_wide_fault : (f : StageFault) → IsLateStop k ordered f → IsWideFault k given f
  late_wide_fault (Wide w) stop = wide_at w.stage w.what stop
  late_wide_fault NoMemory stop = tt

pub whole_fault : (k : ℕ) (given : List Vector) (f : StageFault) (d : DdFault) → HasRank k given → IsConverted f d → IsWideFault k given f → IsFaultOf k given d
whole_fault k given (Wide w) d rank c stop = subst (IsFaultOf k given) (sym c) (rank, stop)
whole_fault k given NoMemory d rank c stop = subst (IsFaultOf k given) (sym c) tt

pub early_wide_fault : (k : ℕ) (given prepared : List Vector) (f : StageFault) → IsPrepared given prepared → IsEarlyStop k prepared f → IsWideFault k given f
early_wide_fault k given prepared (Wide w) p stop = stop given p
early_wide_fault k given prepared NoMemory p stop = tt

pub rank_k : (k : ℕ) (given prepared base free rays rest : List Vector) → IsPrepared given prepared → All (IsShort k) given
    → Progress k prepared (length prepared) base free rays rest → HasRank k given → k ≤ length base
rank_k k given prepared base free rays rest is_prepared short p h = rank_bound k given (length base) k (short_length k given short) (rank_at_end k given prepared base free rays rest is_prepared short p) (rank_full k given h)

pub list_short : (k : ℕ) (A : List Vector) (width : ℕ) (rays : List Ray) (list : List Vector) → All (IsRay k A width) rays → IsSortedSet (vectors rays) list → All (IsShort k) list
list_short k A width rays list all t = member_all (IsShort k) list (λ v m.
    let q = ray_in rays v ((t.each v).0 (contained list m)) in subst (IsShort k) q.is (All-contains (IsRay k A width) rays q.ray all q.member).short)
