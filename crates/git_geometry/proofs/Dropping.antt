-- The extreme vectors among generators by dropping, as a computation.
use Rattle.std.proofs.Common.{◌≡◌, ◌∷◌, [], Bool, List, arith, false, inl, inr, refl, subst, suc, sym, true, zero}
use Rattle.std.proofs.Math.IntN.{◌-ℤ◌, negsuc, pos, ℤ}
use Rattle.std.proofs.lemmas.Int.{ints}
use Rattle.std.specs.Prelude.{if◌then◌else◌}
use Rattle.git_lemmas.specs.Members.{Member}
use Rattle.git_defs.specs.Vectors.{Vector, dot}
use Rattle.git_geometry.proofs.Identities.{head_same, tail_same}
use Rattle.git_geometry.specs.Zeros.{AreUndominated, Dominates}
use Rattle.git_lemmas.proofs.Members.{as_member, contained}

abbrev is_zero : ℤ → Bool
is_zero (pos zero) = true
is_zero (pos (suc n)) = false
is_zero (negsuc n) = false

record IsTest (P : Type 0) (b : Bool) : Type 0 where
  sound : b ≡ true → P
  complete : P → b ≡ true

apart : {X : Type 0} (b : Bool) → b ≡ true → b ≡ false → X
apart b e f = absurd (cc (e, f))

is_zero_test : (z : ℤ) → IsTest (z ≡ pos 0) (is_zero z)
is_zero_test (pos zero) = record { sound = λ e. refl; complete = λ e. refl }
is_zero_test (pos (suc n)) = record { sound = λ e. absurd (cc e); complete = λ e. absurd (omega (arith, ints, e)) }
is_zero_test (negsuc n) = record { sound = λ e. absurd (cc e); complete = λ e. absurd (omega (arith, ints, e)) }

-- where p then q
abbrev implies : Bool → Bool → Bool
implies p q = if p then q else true

abbrev both : Bool → Bool → Bool
both p q = if p then q else false

implies_test : {P Q : Type 0} (p q : Bool) → IsTest P p → IsTest Q q → IsTest (P → Q) (implies p q)
implies_test true q P Q = record { sound = λ e h. Q.sound e; complete = λ f. Q.complete (f (P.sound refl)) }
implies_test false q P Q = record { sound = λ e h. apart false (P.complete h) refl; complete = λ f. refl }

both_test : {P Q : Type 0} (p q : Bool) → IsTest P p → IsTest Q q → IsTest (P × Q) (both p q)
both_test true q P Q = record { sound = λ e. (P.sound refl, Q.sound e); complete = λ h. Q.complete h.1 }
both_test false q P Q = record { sound = λ e. absurd (cc e); complete = λ h. P.complete h.0 }

test_of : {P Q : Type 0} {b : Bool} → (P → Q) → (Q → P) → IsTest P b → IsTest Q b
test_of to back t = record { sound = λ e. to (t.sound e); complete = λ q. t.complete (back q) }

abbrev same_vector : Vector → Vector → Bool
same_vector [] [] = true
same_vector (x ∷ u) (y ∷ v) = both (is_zero (x -ℤ y)) (same_vector u v)
same_vector [] (y ∷ v) = false
same_vector (x ∷ u) [] = false

same_vector_test : (u v : Vector) → IsTest (u ≡ v) (same_vector u v)
same_vector_test [] [] = record { sound = λ e. refl; complete = λ e. refl }
same_vector_test [] (y ∷ v) = record { sound = λ e. absurd (cc e); complete = λ e. absurd (cc e) }
same_vector_test (x ∷ u) [] = record { sound = λ e. absurd (cc e); complete = λ e. absurd (cc e) }
same_vector_test (x ∷ u) (y ∷ v) = test_of
    (λ h. (let e : x ≡ y = (let f = h.0 in omega (arith, ints, f)) in λ i. e i ∷ h.1 i))
    (λ e. ((let f = head_same x y u v e in omega (arith, ints, f)), tail_same x y u v e))
    (both_test (is_zero (x -ℤ y)) (same_vector u v) (is_zero_test (x -ℤ y)) (same_vector_test u v))

abbrev dominates : List Vector → Vector → Vector → Bool
dominates [] s r = true
dominates (a ∷ A) s r = both (implies (is_zero (dot a r)) (is_zero (dot a s))) (dominates A s r)

dominates_test : (A : List Vector) (s r : Vector) → IsTest (Dominates A s r) (dominates A s r)
dominates_test [] s r = record { sound = λ e. record { zeros = λ a m z. absurd (as_member [] m) }; complete = λ d. refl }
dominates_test (a ∷ A) s r = test_of
    (λ h. record {
      zeros = λ b m. elim (as_member (a ∷ A) m) [
        | inl e ↦ subst (λ (c : Vector). dot c r ≡ pos 0 → dot c s ≡ pos 0) e h.0
        | inr n ↦ h.1.zeros b (contained A n)
      ];
    })
    (λ d. (d.zeros a (contained (a ∷ A) (inl refl)), record { zeros = λ b m. d.zeros b (contained (a ∷ A) (inr (as_member A m))) }))
    (both_test (implies (is_zero (dot a r)) (is_zero (dot a s))) (dominates A s r)
    (implies_test (is_zero (dot a r)) (is_zero (dot a s)) (is_zero_test (dot a r)) (is_zero_test (dot a s))) (dominates_test A s r))

-- no other of the vectors dominates r
abbrev is_alone : List Vector → List Vector → Vector → Bool
is_alone A [] r = true
is_alone A (s ∷ given) r = both (implies (dominates A s r) (same_vector s r)) (is_alone A given r)

abbrev Alone : List Vector → List Vector → Vector → Type 0
Alone A given r = (s : Vector) → Member s given → Dominates A s r → s ≡ r

is_alone_test : (A given : List Vector) (r : Vector) → IsTest (Alone A given r) (is_alone A given r)
is_alone_test A [] r = record { sound = λ e s m. absurd m; complete = λ f. refl }
is_alone_test A (t ∷ given) r = test_of
    (λ h s m. elim m [ inl e ↦ subst (λ (u : Vector). Dominates A u r → u ≡ r) e h.0 | inr n ↦ h.1 s n ])
    (λ f. (f t (inl refl), λ s m. f s (inr m)))
    (both_test (implies (dominates A t r) (same_vector t r)) (is_alone A given r)
    (implies_test (dominates A t r) (same_vector t r) (dominates_test A t r) (same_vector_test t r)) (is_alone_test A given r))

-- those of the list that are alone among the given vectors
abbrev pub alone_among : List Vector → List Vector → List Vector → List Vector
alone_among A given [] = []
alone_among A given (r ∷ list) = if is_alone A given r then r ∷ alone_among A given list else alone_among A given list

alone_member : (A given list : List Vector) (r : Vector) → Member r (alone_among A given list) → Member r list × Alone A given r
alone_member A given [] r m = absurd m
alone_member A given (t ∷ list) r m = by (is_alone A given t) refl (alone_member A given list r) m where
  by : (b : Bool) → is_alone A given t ≡ b → (Member r (alone_among A given list) → Member r list × Alone A given r)
      → Member r (if b then t ∷ alone_among A given list else alone_among A given list) → Member r (t ∷ list) × Alone A given r
  by true e rest (inl f) = (inl f, subst (Alone A given) f ((is_alone_test A given t).sound e))
  by true e rest (inr n) = (inr (rest n).0, (rest n).1)
  by false e rest n = (inr (rest n).0, (rest n).1)

alone_listed : (A given list : List Vector) (r : Vector) → Member r list → Alone A given r → Member r (alone_among A given list)
alone_listed A given [] r m f = absurd m
alone_listed A given (t ∷ list) r m f = by (is_alone A given t) refl (λ n. alone_listed A given list r n f) m where
  by : (b : Bool) → is_alone A given t ≡ b → (Member r list → Member r (alone_among A given list))
      → Member r (t ∷ list) → Member r (if b then t ∷ alone_among A given list else alone_among A given list)
  by true e rest (inl g) = inl g
  by true e rest (inr n) = inr (rest n)
  by false e rest (inl g) = apart (is_alone A given t) ((is_alone_test A given t).complete (subst (Alone A given) (sym g) f)) e
  by false e rest (inr n) = rest n

pub alone_undominated : (A given : List Vector) → AreUndominated A given (alone_among A given given)
alone_undominated A given = record {
  from = λ r m. contained given (alone_member A given given r (as_member alone m)).0;
  only = λ r s m n d. (alone_member A given given r (as_member alone m)).1 s (as_member given n) d;
  back = λ r m f. contained alone (alone_listed A given given r (as_member given m) (λ s n d. f s (contained given n) d));
} where
  alone : List Vector
  alone = alone_among A given given
