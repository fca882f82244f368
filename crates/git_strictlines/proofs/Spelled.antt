-- A step that reads what has one spelling: what it takes is that spelling, and where the spelling comes next it is taken.
use Rattle.std.proofs.Common.{◌≡◌, ℕ, zero, suc, List, [], ◌∷◌, ◌++◌, length, Result, Ok, refl, sym, ap, ◌∙◌, subst, append_assoc}
use Rattle.std.specs.List.{flat_map, AllByRecursion}
use Rattle.git_lines.specs.Reading.{times}
use Rattle.git_lines.proofs.Exact.{bind_ok, ok_is}

pub record Spelled {A S T E : Type 0} (step : S → Result (A × S) E) (items : S → List T) (spell : A → List T) (Fits : A → Type 0) : Type 0 where
  pub takes : (s after : S) (a : A) → step s ≡ Ok (a, after) → (items s ≡ spell a ++ items after) × Fits a
  pub again : (s : S) (a : A) (ts : List T) → Fits a → items s ≡ spell a ++ ts → (after : S) × (step s ≡ Ok (a, after)) × (items after ≡ ts)

pub times_takes : {A S T E : Type 0} (step : S → Result (A × S) E) (items : S → List T) (spell : A → List T) (Fits : A → Type 0) → Spelled step items spell Fits
    → (n : ℕ) (s after : S) (made : List A) → times step n s ≡ Ok (made, after)
    → (items s ≡ flat_map spell made ++ items after) × AllByRecursion Fits made × (length made ≡ n)
unfolding times
times_takes step items spell Fits steps zero s after made e =
    let p = ok_is ([], s) (made, after) e in
    subst (λ q. (items s ≡ flat_map spell q.0 ++ items q.1) × AllByRecursion Fits q.0 × (length q.0 ≡ 0)) p (refl, tt, refl)
times_takes step items spell Fits steps (suc n) s after made e =
    let a = bind_ok (step s) _ (made, after) e in
    let b = bind_ok (times step n a.0.1) _ (made, after) a.2 in
    let one = steps.takes s a.0.1 a.0.0 a.1 in
    let more = times_takes step items spell Fits steps n a.0.1 b.0.1 b.0.0 b.1 in
    let p = ok_is (a.0.0 ∷ b.0.0, b.0.1) (made, after) b.2 in
    subst (λ q. (items s ≡ flat_map spell q.0 ++ items q.1) × AllByRecursion Fits q.0 × (length q.0 ≡ suc n)) p
    (one.0 ∙ ap (λ l. spell a.0.0 ++ l) more.0 ∙ sym (append_assoc (spell a.0.0) (flat_map spell b.0.0) (items b.0.1)), (one.1, more.1), ap suc more.2)

pub times_again : {A S T E : Type 0} (step : S → Result (A × S) E) (items : S → List T) (spell : A → List T) (Fits : A → Type 0) → Spelled step items spell Fits
    → (made : List A) (s : S) (ts : List T) → AllByRecursion Fits made → items s ≡ flat_map spell made ++ ts
    → (after : S) × (times step (length made) s ≡ Ok (made, after)) × (items after ≡ ts)
unfolding times
times_again step items spell Fits steps [] s ts h e = (s, refl, e)
times_again step items spell Fits steps (a ∷ made) s ts h e =
    let one = steps.again s a (flat_map spell made ++ ts) h.0 (e ∙ append_assoc (spell a) (flat_map spell made) ts) in
    let more = times_again step items spell Fits steps made one.0 ts h.1 one.2 in
    (more.0, rw (one.1, more.1) refl, more.2)
