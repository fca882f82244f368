-- Masks as sets of places, and lists that are related one by one.
use Rattle.std.proofs.Common.{◌≡◌, ◌+◌, ◌*◌, ◌<◌, ◌≤◌, ◌^◌, ◌%◌, ◌/◌, ◌∙◌, ◌⊎◌, ◌∷◌, ◌++◌, [], List, ap, arith, inl, inr, length, refl, subst, sym, ℕ, zero, suc, take, drop, get_or, true, false, Bool}
use Rattle.std.specs.Int.Bits.{and_step}
use Rattle.std.specs.Prelude.{if◌then◌else◌, IsTrue, ◌↔◌}
use Rattle.std.proofs.lemmas.List.{take_more, drop_more}
use Rattle.std.specs.Int.RustNames.{bit_and}
use Rattle.std.proofs.lemmas.Nat.Bits.{bit_at_and, bit_at-lt, same_from_bits, bit_at-zero}
use Rattle.git_defs.specs.Vectors.{Vector}
use Rattle.git_defs.specs.Faces.{face}
use Rattle.git_lemmas.specs.Members.{Member}
use Rattle.git_minors.proofs.Parts.{face_even, face_odd}
use Rattle.git_bits.proofs.Bits.{odd_or_even}
use Rattle.git_orbit.specs.Keys.{AreZipped, Selects}

pub doubled : (n : ℕ) → 2 * 2 ^ n ≡ 2 ^ suc n
doubled n = omega arith

pub and_none : (m : ℕ) → bit_and m 0 ≡ 0
and_none m = same_from_bits (bit_and m 0) 0 (λ i. let e = bit_at_and m 0 i in let z = bit_at-zero i in let l = bit_at-lt m i in omega (arith, e, z, l))

half_within : (m h : ℕ) → bit_and m h ≡ m → bit_and (m / 2) (h / 2) ≡ m / 2
half_within m h e = let s = and_step m h in omega (arith, e, s)

odd_within : (m h : ℕ) → bit_and m h ≡ m → m % 2 ≡ 1 → h % 2 ≡ 1
odd_within m h e odd = let s = and_step m h in omega (arith, e, s, odd)

pub face_more : (q : Vector) (qs : List Vector) (m : ℕ) (v : Vector) → Member v (face qs (m / 2)) → Member v (face (q ∷ qs) m)
face_more q qs m v n = elim (odd_or_even m) [
  | inl odd ↦ subst (Member v) (sym (face_odd q qs m odd)) (inr n)
  | inr even ↦ subst (Member v) (sym (face_even q qs m even)) n
]

pub face_first : (q : Vector) (qs : List Vector) (m : ℕ) → m % 2 ≡ 1 → Member q (face (q ∷ qs) m)
face_first q qs m odd = subst (Member q) (sym (face_odd q qs m odd)) (inl refl)

pub face_few : (qs : List Vector) (m : ℕ) → length (face qs m) ≤ length qs
face_few [] m = omega arith
face_few (q ∷ qs) m = let n = face_few qs (m / 2) in elim (odd_or_even m) [
  | inl odd ↦ subst (λ (l : List Vector). length l ≤ suc (length qs)) (sym (face_odd q qs m odd)) (omega (arith, n))
  | inr even ↦ subst (λ (l : List Vector). length l ≤ suc (length qs)) (sym (face_even q qs m even)) (omega (arith, n))
]

-- ---- the mask of those that P holds of
pub sel_bound : (P : Vector → Type 0) (qs : List Vector) (h : ℕ) → Selects P qs h → h < 2 ^ length qs
sel_bound P [] h s = omega (arith, s)
sel_bound P (q ∷ qs) h s = let b = sel_bound P qs (h / 2) s.1 in omega (arith, b, doubled (length qs))

pub sel_to : (P : Vector → Type 0) (qs : List Vector) (m h : ℕ) → Selects P qs h → bit_and m h ≡ m → (v : Vector) → Member v (face qs m) → P v
sel_to P [] m h s e v n = absurd n
sel_to P (q ∷ qs) m h s e v n = elim (odd_or_even m) [
  | inl odd ↦ elim (subst (Member v) (face_odd q qs m odd) n) [
    | inl f ↦ elim s.0 [
      | inl o ↦ subst P f o.1
      | inr z ↦ absurd (let a = odd_within m h e odd in let b = z.0 in omega (arith, a, b))
    ]
    | inr t ↦ sel_to P qs (m / 2) (h / 2) s.1 (half_within m h e) v t
  ]
  | inr even ↦ sel_to P qs (m / 2) (h / 2) s.1 (half_within m h e) v (subst (Member v) (face_even q qs m even) n)
]

pub sel_from : (P : Vector → Type 0) (qs : List Vector) (m h : ℕ) → m < 2 ^ length qs → Selects P qs h → ((v : Vector) → Member v (face qs m) → P v) → bit_and m h ≡ m
sel_from P [] m h lt s all = let z : 0 ≡ m = omega (arith, lt) in subst (λ (n : ℕ). bit_and n h ≡ n) z refl
sel_from P (q ∷ qs) m h lt s all =
    let half : m / 2 < 2 ^ length qs = omega (arith, lt, doubled (length qs)) in
    let e = sel_from P qs (m / 2) (h / 2) half s.1 (λ v n. all v (face_more q qs m v n)) in
    let st = and_step m h in
    elim (odd_or_even m) [
      | inl odd ↦ elim s.0 [
        | inl o ↦ (let b = o.0 in omega (arith, e, st, odd, b))
        | inr z ↦ absurd (z.1 (all q (face_first q qs m odd)))
      ]
      | inr even ↦ omega (arith, e, st, even)
    ]

pub record Meeting (P : Vector → Type 0) (vs : List Vector) : Type 0 where
  pub one : Vector
  pub member : Member one vs
  pub holds : P one

meeting_more : (P : Vector → Type 0) (q : Vector) (qs : List Vector) (m : ℕ) → Meeting P (face qs (m / 2)) → Meeting P (face (q ∷ qs) m)
meeting_more P q qs m r = record { one = r.one; member = face_more q qs m r.one r.member; holds = r.holds }

pub meets_to : (P : Vector → Type 0) (qs : List Vector) (m a : ℕ) → Selects P qs a → (bit_and m a ≡ 0 → ⊥) → Meeting P (face qs m)
meets_to P [] m a s ne = absurd (ne (ap (bit_and m) s ∙ and_none m))
meets_to P (q ∷ qs) m a s ne =
    let st = and_step m a in
    elim (odd_or_even m) [
      | inl odd ↦ elim s.0 [
        | inl o ↦ record { one = q; member = face_first q qs m odd; holds = o.1 }
        | inr z ↦ meeting_more P q qs m (meets_to P qs (m / 2) (a / 2) s.1 (λ e. ne (let b = z.0 in omega (arith, st, e, b))))
      ]
      | inr even ↦ meeting_more P q qs m (meets_to P qs (m / 2) (a / 2) s.1 (λ e. ne (omega (arith, st, e, even))))
    ]

pub meets_from : (P : Vector → Type 0) (qs : List Vector) (m a : ℕ) (v : Vector) → Selects P qs a → Member v (face qs m) → P v → bit_and m a ≡ 0 → ⊥
meets_from P [] m a v s n p e = absurd n
meets_from P (q ∷ qs) m a v s n p e =
    let st = and_step m a in
    let half : bit_and (m / 2) (a / 2) ≡ 0 = omega (arith, st, e) in
    elim (odd_or_even m) [
      | inl odd ↦ elim (subst (Member v) (face_odd q qs m odd) n) [
        | inl f ↦ elim s.0 [
          | inl o ↦ (let b = o.0 in omega (arith, st, e, odd, b))
          | inr z ↦ z.1 (subst P (sym f) p)
        ]
        | inr t ↦ meets_from P qs (m / 2) (a / 2) v s.1 t p half
      ]
      | inr even ↦ meets_from P qs (m / 2) (a / 2) v s.1 (subst (Member v) (face_even q qs m even) n) p half
    ]

-- ---- lists related one by one
pub zip_push : {X Y : Type 0} (R : X → Y → Type 0) (xs : List X) (ys : List Y) (x : X) (y : Y) → AreZipped R xs ys → R x y → AreZipped R (xs ++ x ∷ []) (ys ++ y ∷ [])
zip_push R [] [] x y z r = (r, tt)
zip_push R (a ∷ xs) (b ∷ ys) x y z r = (z.0, zip_push R xs ys x y z.1 r)
zip_push R [] (b ∷ ys) x y z r = absurd z
zip_push R (a ∷ xs) [] x y z r = absurd z

pub record Partner {X : Type 0} (R : X → Type 0) (xs : List X) : Type 0 where
  pub one : X
  pub member : Member one xs
  pub related : R one

pub zip_to : {X Y : Type 0} (R : X → Y → Type 0) (xs : List X) (ys : List Y) (x : X) → AreZipped R xs ys → Member x xs → Partner (R x) ys
zip_to R [] ys x z n = absurd n
zip_to R (a ∷ xs) [] x z n = absurd z
zip_to R (a ∷ xs) (b ∷ ys) x z (inl e) = record { one = b; member = inl refl; related = subst (λ u. R u b) e z.0 }
zip_to R (a ∷ xs) (b ∷ ys) x z (inr n) = let r = zip_to R xs ys x z.1 n in record { one = r.one; member = inr r.member; related = r.related }

pub zip_back : {X Y : Type 0} (R : X → Y → Type 0) (xs : List X) (ys : List Y) (y : Y) → AreZipped R xs ys → Member y ys → Partner (λ x. R x y) xs
zip_back R xs [] y z n = absurd n
zip_back R [] (b ∷ ys) y z n = absurd z
zip_back R (a ∷ xs) (b ∷ ys) y z (inl e) = record { one = a; member = inl refl; related = subst (λ u. R a u) e z.0 }
zip_back R (a ∷ xs) (b ∷ ys) y z (inr n) = let r = zip_back R xs ys y z.1 n in record { one = r.one; member = inr r.member; related = r.related }

pub zip_long : {X Y : Type 0} (R : X → Y → Type 0) (xs : List X) (ys : List Y) → AreZipped R xs ys → length ys ≡ length xs
zip_long R [] [] z = refl
zip_long R (a ∷ xs) (b ∷ ys) z = ap suc (zip_long R xs ys z.1)
zip_long R [] (b ∷ ys) z = absurd z
zip_long R (a ∷ xs) [] z = absurd z

pub zip_face : (R : Vector → Vector → Type 0) (qs ws : List Vector) (m : ℕ) → AreZipped R qs ws → AreZipped R (face qs m) (face ws m)
zip_face R [] [] m z = tt
zip_face R [] (w ∷ ws) m z = absurd z
zip_face R (q ∷ qs) [] m z = absurd z
zip_face R (q ∷ qs) (w ∷ ws) m z = let rest = zip_face R qs ws (m / 2) z.1 in elim (odd_or_even m) [
  | inl odd ↦ subst (λ (l : List Vector). AreZipped R l (face (w ∷ ws) m)) (sym (face_odd q qs m odd)) (subst (λ (l : List Vector). AreZipped R (q ∷ face qs (m / 2)) l) (sym (face_odd w ws m odd)) (z.0, rest))
  | inr even ↦ subst (λ (l : List Vector). AreZipped R l (face (w ∷ ws) m)) (sym (face_even q qs m even)) (subst (λ (l : List Vector). AreZipped R (face qs (m / 2)) l) (sym (face_even w ws m even)) rest)
]

pub zip_more : {X Y : Type 0} (R : X → Y → Type 0) (xs : List X) (ys : List Y) (i : ℕ) (d : X) (y : Y) → i < length xs → AreZipped R (take i xs) ys → R (get_or xs i d) y → AreZipped R (take (i + 1) xs) (ys ++ y ∷ [])
zip_more {Y = Y} R xs ys i d y h z r = subst (λ u. AreZipped R u (ys ++ y ∷ [])) (sym (take_more xs i d h)) (zip_push R (take i xs) ys (get_or xs i d) y z r)

-- ---- a member of a front
pub number_more : (xs : List ℕ) (i d x : ℕ) → i < length xs → Member x (take (i + 1) xs) → Member x (take i xs) ⊎ (get_or xs i d ≡ x)
number_more xs i d x h m = last_or (take i xs) (get_or xs i d) (subst (Member x) (take_more xs i d h) m) where
  last_or : (us : List ℕ) (v : ℕ) → Member x (us ++ v ∷ []) → Member x us ⊎ (v ≡ x)
  last_or [] v (inl e) = inr e
  last_or [] v (inr n) = absurd n
  last_or (u ∷ us) v (inl e) = inl (inl e)
  last_or (u ∷ us) v (inr n) = elim (last_or us v n) [ inl l ↦ inl (inr l) | inr r ↦ inr r ]

-- ---- one bit more, from the last on
bit_case : (P : Vector → Type 0) (q : Vector) (mask new : ℕ) (bit : Bool) → new ≡ 2 * mask + (if bit then 1 else 0) → (IsTrue bit ↔ P q) → (((new % 2 ≡ 1) × P q) ⊎ ((new % 2 ≡ 0) × (P q → ⊥))) × (new / 2 ≡ mask)
bit_case P q mask new true e is = (inl (omega (arith, e), is.0 refl), omega (arith, e))
bit_case P q mask new false e is = (inr (omega (arith, e), λ p. let t = is.1 p in cc t), omega (arith, e))

pub sel_more : (P : Vector → Type 0) (qs : List Vector) (i c mask new : ℕ) (d : Vector) (bit : Bool) → i < length qs → c ≡ i + 1 → Selects P (drop c qs) mask → new ≡ 2 * mask + (if bit then 1 else 0) → (IsTrue bit ↔ P (get_or qs i d))
    → Selects P (drop i qs) new
sel_more P qs i c mask new d bit h ec s e is =
    let b = bit_case P (get_or qs i d) mask new bit e is in
    subst (λ (u : List Vector). Selects P u new) (sym (drop_more qs i d h)) (b.0, subst (Selects P (drop (i + 1) qs)) (sym b.1) (subst (λ (n : ℕ). Selects P (drop n qs) mask) ec s))

pub bit_below : (mask new j : ℕ) (bit : Bool) → mask < 2 ^ j → new ≡ 2 * mask + (if bit then 1 else 0) → new < 2 ^ (j + 1)
bit_below mask new j true h e = let d = doubled j in let f : suc j ≡ j + 1 = omega arith in subst (λ (n : ℕ). new < 2 ^ n) f (omega (arith, h, e, d))
bit_below mask new j false h e = let d = doubled j in let f : suc j ≡ j + 1 = omega arith in subst (λ (n : ℕ). new < 2 ^ n) f (omega (arith, h, e, d))

-- ---- the columns of a face, one by one
pub face_odd_more : (qs front whole : List Vector) (i rest : ℕ) (d : Vector) → i < length qs → rest % 2 ≡ 1 → front ++ face (drop i qs) rest ≡ whole → (front ++ get_or qs i d ∷ []) ++ face (drop (i + 1) qs) (rest / 2) ≡ whole
face_odd_more qs front whole i rest d h odd e =
    append_one front (get_or qs i d) (face (drop (i + 1) qs) (rest / 2)) ∙ ap (λ (u : List Vector). front ++ u) (sym (face_odd (get_or qs i d) (drop (i + 1) qs) rest odd)) ∙ ap (λ (u : List Vector). front ++ face u rest) (sym (drop_more qs i d h)) ∙ e
  where
    append_one : (us : List Vector) (v : Vector) (vs : List Vector) → (us ++ v ∷ []) ++ vs ≡ us ++ v ∷ vs
    append_one [] v vs = refl
    append_one (u ∷ us) v vs = ap (λ (l : List Vector). u ∷ l) (append_one us v vs)

pub face_even_more : (qs front whole : List Vector) (i rest : ℕ) (d : Vector) → i < length qs → (rest % 2 ≡ 1 → ⊥) → front ++ face (drop i qs) rest ≡ whole → front ++ face (drop (i + 1) qs) (rest / 2) ≡ whole
face_even_more qs front whole i rest d h ne e = elim (odd_or_even rest) [
  | inl odd ↦ absurd (ne odd)
  | inr even ↦ ap (λ (u : List Vector). front ++ u) (sym (face_even (get_or qs i d) (drop (i + 1) qs) rest even)) ∙ ap (λ (u : List Vector). front ++ face u rest) (sym (drop_more qs i d h)) ∙ e
]

pub face_end : (qs front whole : List Vector) (i rest : ℕ) → length qs ≤ i → front ++ face (drop i qs) rest ≡ whole → front ≡ whole
face_end qs front whole i rest h e = sym (append_nil front) ∙ ap (λ (u : List Vector). front ++ face u rest) (sym (drop_whole qs i h)) ∙ e where
  append_nil : (us : List Vector) → us ++ [] ≡ us
  append_nil [] = refl
  append_nil (u ∷ us) = ap (λ (l : List Vector). u ∷ l) (append_nil us)

  drop_whole : (us : List Vector) (n : ℕ) → length us ≤ n → drop n us ≡ []
  drop_whole [] zero h = refl
  drop_whole [] (suc n) h = refl
  drop_whole (u ∷ us) zero h = absurd (omega arith)
  drop_whole (u ∷ us) (suc n) h = drop_whole us n (omega arith)
