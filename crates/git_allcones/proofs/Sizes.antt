-- Sizes of lists of lists: distinct members are no more than all.
use Rattle.std.proofs.Common.{List, [], ◌+◌, ◌<◌, ◌≤◌, ◌∷◌, ◌≡◌, ◌≢◌, ◌∙◌, ◌++◌, ap, arith, get_or, inl, inr, length, map, refl, suc, sym, take, zero, ℕ}
use Rattle.std.proofs.lemmas.List.{map-append, take_more}
use Rattle.std.specs.Global.{Vec}
use Rattle.git_ints.specs.declared.vector.IVec.{IVec}
use Rattle.git_allcones.specs.Sets.{vectors_of}
use Rattle.git_defs.specs.Vectors.{Vector}
use Rattle.git_lemmas.specs.Members.{Member}
use Rattle.git_lemmas.proofs.Sorting.{Ascends}
use Rattle.git_allcones.specs.Faces.{IsAllFault, lists_size}
use Rattle.git_allcones.specs.declared.sets.AllFault.{AllFault}
use Rattle.git_allcones.specs.declared.sets.AllFault.TheVariants.{TooMany, NoMemory}

abbrev pub differ : List Vector → List Vector → Type 0
differ us vs = us ≢ vs

-- the lists without one of them
record Without (one : List Vector) (lists : List (List Vector)) : Type 0 where
  rest : List (List Vector)
  size : lists_size lists ≡ 1 + length one + lists_size rest
  each : (vs : List Vector) → Member vs lists → one ≢ vs → Member vs rest

without : (one : List Vector) (lists : List (List Vector)) → Member one lists → Without one lists
without one [] m = absurd m
without one (l ∷ lists) (inl e) = record {
  rest = lists;
  size = ap (λ (u : List Vector). 1 + length u + lists_size lists) e;
  each = λ vs m off. elim m [ inl f ↦ absurd (off (sym e ∙ f)) | inr o ↦ o ];
}
without one (l ∷ lists) (inr m) =
    let w = without one lists m in
    record {
      rest = l ∷ w.rest;
      size = let s = w.size in omega (arith, s);
      each = λ vs o off. elim o [ inl f ↦ inl f | inr p ↦ inr (w.each vs p off) ];
    }

pub size_within : (us lists : List (List Vector)) → Ascends differ us → ((vs : List Vector) → Member vs us → Member vs lists) → lists_size us ≤ lists_size lists
size_within [] lists a within = omega arith
size_within (u ∷ us) lists a within =
    let w = without u lists (within u (inl refl)) in
    let rest = size_within us w.rest a.1 (λ vs m. w.each vs (within vs (inr m)) (a.0 vs m)) in
    let s = w.size in omega (arith, s, rest)

pub many_of : (P Q : List Vector → Type 0) → ((vs : List Vector) → P vs → Q vs) → (f : AllFault) → IsAllFault P f → IsAllFault Q f
many_of P Q to TooMany many = record { lists = many.lists; distinct = many.distinct; each = λ vs c. to vs (many.each vs c); many = many.many }
many_of P Q to NoMemory many = tt

-- ---- the size of a front
size_append : (a b : List (List Vector)) → lists_size (a ++ b) ≡ lists_size a + lists_size b
size_append [] b = omega arith
size_append (u ∷ a) b = let s = size_append a b in omega (arith, s)

abbrev pub front_size : List (Vec IVec) → ℕ → ℕ
front_size lists i = lists_size (map vectors_of (take i lists))

pub front_more : (lists : List (Vec IVec)) (i : ℕ) (list : Vec IVec) → i < length lists → list ≡ get_or lists i list
    → front_size lists (i + 1) ≡ front_size lists i + (1 + length list.items)
front_more lists i list h at =
    let e : map vectors_of (take (i + 1) lists) ≡ map vectors_of (take i lists) ++ list.items ∷ [] =
    ap (map vectors_of) (take_more lists i list h) ∙ map-append vectors_of (take i lists) (get_or lists i list ∷ [])
    ∙ (λ j. map vectors_of (take i lists) ++ vectors_of (sym at j) ∷ []) in
    let s = ap lists_size e ∙ size_append (map vectors_of (take i lists)) (list.items ∷ []) in
    omega (arith, s)

pub front_within : (lists : List (Vec IVec)) (i : ℕ) → front_size lists i ≤ lists_size (map vectors_of lists)
front_within [] zero = omega arith
front_within [] (suc i) = omega arith
front_within (l ∷ lists) zero = omega arith
front_within (l ∷ lists) (suc i) = let r = front_within lists i in omega (arith, r)
