-- What the engine on one thread promises, and how it gets there.
use Rattle.std.specs.Prelude.{◌≡◌, ◌⊎◌, ℕ, ◌<◌, ◌≤◌, List, ◌++◌, length, slice_index_or, map}
use Rattle.std.specs.List.{All, AllPairs, Contains}
use Rattle.std.specs.declared.cmp.Ordering.TheVariants.{Less}
use Rattle.git_machine.specs.declared.successors.Found.{Found}
use Rattle.git_machine.specs.Signatures.{Signature, signature_cmp}
use Rattle.git_machine.specs.Reach.{IsOnce, LeadsTo, Reached}

-- the signatures of what is found
abbrev pub signatures_of : {P : Type 0} → List (Found P) → List Signature
signatures_of found = map (λ f. f.sig) found

-- each before all later ones
abbrev pub InOrder : List Signature → Type 0
InOrder sigs = AllPairs (λ a b. signature_cmp a b ≡ Less) sigs

-- now is old and then members of more, has all of more, and has nothing twice
pub record IsGrown (old more now : List Signature) : Type 0 where
  pub begins : (rest : List Signature) × (now ≡ old ++ rest)
  pub from : All (λ x. Contains old x ⊎ Contains more x) now
  pub whole : All (Contains now) more
  pub once : IsOnce now

module _ (next : Signature → List Signature → Type 0) (first : Signature) where
  -- listed so far, of which the first n have all of their next listed
  pub record IsClosedTo (legal : Signature → Type 0) (sigs : List Signature) (n : ℕ) : Type 0 where
    pub root : Contains sigs first
    pub sound : All (Reached next first) sigs
    pub legal_all : All legal sigs
    pub once : IsOnce sigs
    pub closed : (k : ℕ) (d s : Signature) → k < n → LeadsTo next (slice_index_or sigs k d) s → Contains sigs s
    pub within : n ≤ length sigs
