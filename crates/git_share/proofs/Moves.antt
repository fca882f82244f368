-- Each move of hints keeps the rule.
use Rattle.std.proofs.Common.{◌≡◌, ◌≢◌, ℕ, zero, suc, ◌+◌, ◌<◌, List, [], ◌∷◌, ◌++◌, length, set, sym, refl, ap, ◌∙◌, subst, arith, ⊎_elim}
use Rattle.std.specs.List.{All}
use Rattle.std.proofs.lemmas.List.Elements.{All-append, All-cons, All-nil, All-take, All-drop}
use lib.Seq.{take-append_seam, drop-append_seam}
use mathlib.Core.Option.{some, some-injective, some-ne-none}
use lib.ListN.{get_elem?}
use Rattle.crossbeam_deque.specs.Tasks.{Pushes, Takes, Finds, Forks}
use Rattle.crossbeam_deque.proofs.Lists.{at_set, at_snoc}
use Rattle.git_share.specs.declared.rule.Told.{Told}
use Rattle.git_share.specs.Hinting.{IsHinting, IsLeft, untold, opened}

left_of : (P : ℕ → Type 0) (xs ys : List ℕ) → All P (xs ++ ys) → All P xs
left_of P xs ys h = subst (All P) (take-append_seam xs ys) (All-take P (length xs) (xs ++ ys) h)

right_of : (P : ℕ → Type 0) (xs ys : List ℕ) → All P (xs ++ ys) → All P ys
right_of P xs ys h = subst (All P) (drop-append_seam xs ys) (All-drop P (length xs) (xs ++ ys) h)

-- a list of one
at_one : (u v : Told) (i : ℕ) → get_elem? (u ∷ []) i ≡ some v → (i ≡ 0) × (u ≡ v)
at_one u v zero e = (refl, some-injective u v e)
at_one u v (suc i) e = absurd (some-ne-none v (sym e))

module _ (views : List Told) (u : Told) (is : views ≡ u ∷ []) where
  first_place : (i : ℕ) (v : Told) → get_elem? views i ≡ some v → i ≡ 0
  first_place i v at = (at_one u v i (ap (λ (l : List Told). get_elem? l i) (sym is) ∙ at)).0

  set_one : (i : ℕ) (v w : Told) → get_elem? views i ≡ some v → set views i w ≡ w ∷ []
  set_one i v w at = ap (λ (l : List Told). set l i w) is ∙ ap (λ (k : ℕ). set (u ∷ []) k w) (first_place i v at)

pub begins : IsHinting [] (untold ∷ [])
begins = record {
  room = 0;
  same = λ i v e. ap (λ (t : Told). t.room) (sym (at_one untold v i e).1);
  low = All-nil (λ x. x < 0);
  exact = λ i v e _. let t = (at_one untold v i e).1 in (ap (λ (u : Told). u ∷ []) t, ap (λ (u : Told). u.left) t);
}

module _ (items : List ℕ) (views : List Told) (h : IsHinting items views) (port : ℕ) (v w : Told) (at : get_elem? views port ≡ some v) where
  -- the view at the port is w now
  rooms : w.room ≡ v.room → (i : ℕ) (u : Told) → get_elem? (set views port w) i ≡ some u → u.room ≡ h.room
  rooms room i u e = ⊎_elim (λ (t : (i ≡ port) × (w ≡ u)). ap (λ (t : Told). t.room) (sym t.1) ∙ (room ∙ h.same port v at)) (λ (t : (i ≢ port) × (get_elem? views i ≡ some u)). h.same i u t.1) (at_set views port i w u e)

  -- who is alone knows these
  knows : (now : List ℕ) → w.alone ≡ v.alone → (v.alone ≡ 1 → now ≡ w.left) → (i : ℕ) (u : Told) → get_elem? (set views port w) i ≡ some u → u.alone ≡ 1 → (set views port w ≡ u ∷ []) × (now ≡ u.left)
  knows now alone left i u e one = ⊎_elim
      (λ (t : (i ≡ port) × (w ≡ u)).
      let a : v.alone ≡ 1 = sym alone ∙ (ap (λ (t : Told). t.alone) t.1 ∙ one) in
      (set_one views v (h.exact port v at a).0 port v w at ∙ ap (λ (t : Told). t ∷ []) t.1, left a ∙ ap (λ (t : Told). t.left) t.1))
      (λ (t : (i ≢ port) × (get_elem? views i ≡ some u)).
      let is = (h.exact i u t.1 one).0 in absurd (t.0 (first_place views u is i u t.1 ∙ sym (first_place views u is port v at))))
      (at_set views port i w u e)

-- the room is told
pub opens : (port x : ℕ) (v : Told) → v.room ≡ 0 → v.alone ≡ 1 → v.left ≡ [] → Pushes IsHinting port v (x ∷ []) (λ w. w ≡ opened (x ∷ []))
opens port x v room alone left items views h at =
    let w : Told = opened (x ∷ []) in
    let e = h.exact port v at alone in
    let one : set views port w ≡ w ∷ [] = set_one views v e.0 port v w at in
    let none : items ≡ [] = e.1 ∙ left in (
      w,
      record {
        room = x + 1;
        same = λ i u a. ap (λ (t : Told). t.room) (sym (at_one w u i (ap (λ (l : List Told). get_elem? l i) (sym one) ∙ a)).1);
        low = subst (λ (l : List ℕ). All (λ y. y < x + 1) (l ++ x ∷ [])) (sym none) (All-cons (λ y. y < x + 1) x [] (omega arith) (All-nil (λ y. y < x + 1)));
        exact = λ i u a _. let t = (at_one w u i (ap (λ (l : List Told). get_elem? l i) (sym one) ∙ a)).1 in (one ∙ ap (λ (t : Told). t ∷ []) t, ap (λ (l : List ℕ). l ++ x ∷ []) none ∙ ap (λ (u : Told). u.left) t);
      },
      refl,
    )

pub puts : (port x : ℕ) (v : Told) → x < v.room → Pushes IsHinting port v (x ∷ []) (λ w. w ≡ record v { left = v.left ++ x ∷ [] })
puts port x v low items views h at =
    let w : Told = record v { left = v.left ++ x ∷ [] } in
    let below : x < h.room = subst (λ (n : ℕ). x < n) (h.same port v at) low in (
      w,
      record {
        room = h.room;
        same = rooms items views h port v w at refl;
        low = All-append (λ y. y < h.room) items (x ∷ []) h.low (All-cons (λ y. y < h.room) x [] below (All-nil (λ y. y < h.room)));
        exact = knows items views h port v w at (items ++ x ∷ []) refl (λ a. ap (λ (l : List ℕ). l ++ x ∷ []) (h.exact port v at a).1);
      },
      refl,
    )

pub takes : (port most : ℕ) (v : Told) → Takes IsHinting port v most (IsLeft v)
takes port most v xs items views _ _ h at =
    let w : Told = record v { left = items } in (
      w,
      record { room = h.room; same = rooms (xs ++ items) views h port v w at refl; low = right_of (λ x. x < h.room) xs items h.low; exact = knows (xs ++ items) views h port v w at items refl (λ _. refl) },
      record {
        room = refl;
        alone = refl;
        low = subst (λ (n : ℕ). All (λ x. x < n) xs) (sym (h.same port v at)) (left_of (λ x. x < h.room) xs items h.low);
        left = λ a. sym (h.exact port v at a).1;
      },
    )

pub finds : (port : ℕ) (v : Told) → Finds IsHinting port v (v.alone ≡ 1 → v.left ≡ [])
finds port v views h at a = sym (h.exact port v at a).1

pub parts : (port : ℕ) (v : Told) → Forks IsHinting port v (record v { alone = 0 }) (record v { alone = 0 })
parts port v items views h at = record {
  room = h.room;
  same = λ i u e. ⊎_elim (λ (t : get_elem? (set views port w) i ≡ some u). rooms items views h port v w at refl i u t) (λ (t : w ≡ u). ap (λ (t : Told). t.room) (sym t) ∙ h.same port v at) (at_snoc (set views port w) w u i e);
  low = h.low;
  exact = λ i u e one. ⊎_elim
      (λ (t : get_elem? (set views port w) i ≡ some u). ⊎_elim
      (λ (t : (i ≡ port) × (w ≡ u)). let a = ap (λ (t : Told). t.alone) t.1 in absurd (omega arith))
      (λ (t : (i ≢ port) × (get_elem? views i ≡ some u)). let is = (h.exact i u t.1 one).0 in absurd (t.0 (first_place views u is i u t.1 ∙ sym (first_place views u is port v at))))
      (at_set views port i w u t))
      (λ (t : w ≡ u). let a = ap (λ (t : Told). t.alone) t in absurd (omega arith))
      (at_snoc (set views port w) w u i e);
}
  where
    w : Told
    w = record v { alone = 0 }
