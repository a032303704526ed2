-- Lists of waiting writes of which no two are the same station's write of the same number.
-- Assumes nothing.
use Rattle.std.proofs.Common.{◌≡◌, ◌⊎◌, List, [], ◌∷◌, ◌++◌, sym, refl, ap, ◌∙◌, subst, inl, inr}
use mathlib.Core.List.Memᴰ
use Rattle.protocol.specs.Lookups.{In}
use Rattle.protocol.specs.State.{Waiting}
use Rattle.protocol.proofs.Lookups.{not_in, was_with}

-- the same station's write of the same number
pub record SameWrite {Row : Type 0} (w v : Waiting Row) : Type 0 where
  pub station : w.station ≡ v.station
  pub number : w.number ≡ v.number

abbrev pub Apart : {Row : Type 0} → List (Waiting Row) → Type 0
Apart [] = Unit {0}
Apart {Row} (w ∷ l) = ((v : Waiting Row) → In v l → SameWrite w v → ⊥) × Apart l

-- writes are still apart when one has left
pub apart_without : {Row : Type 0} (b a : List (Waiting Row)) (w : Waiting Row) → Apart (b ++ (w ∷ a)) → Apart (b ++ a)
apart_without [] a w p = p.1
apart_without (x ∷ b) a w p = (λ v m e. p.0 v (was_with b a w v m) e, apart_without b a w p.1)

-- and the one that left is not among them
pub apart_other :
    {Row : Type 0} (b a : List (Waiting Row)) (w : Waiting Row) → Apart (b ++ (w ∷ a)) → (v : Waiting Row) → In v (b ++ a) → SameWrite w v → ⊥
apart_other [] a w p v m e = p.0 v m e
apart_other (x ∷ b) a w p v m e = go (Memᴰ.cases_cons m) (λ k. apart_other b a w p.1 v k e)
  where
    go : (v ≡ x) ⊎ In v (b ++ a) → (In v (b ++ a) → ⊥) → ⊥
    go (inr k) rest = rest k
    go (inl k) rest =
        p.0 w (Memᴰ.append_right b (Memᴰ.head refl))
        (record {
          station = ap (λ (u : Waiting _). u.station) (sym k) ∙ sym e.station;
          number = ap (λ (u : Waiting _). u.number) (sym k) ∙ sym
              e.number;
        })

-- one more that is none of them may join at the end
pub apart_more :
    {Row : Type 0} (l : List (Waiting Row)) (w : Waiting Row) → Apart l → ((v : Waiting Row) → In v l → SameWrite v w → ⊥) → Apart (l ++ (w ∷ []))
apart_more [] w p h = (λ v m e. not_in refl m, tt)
apart_more (x ∷ l) w p h = (λ v m e. go v e (Memᴰ.append_cases l m), apart_more l w p.1 (λ v m e. h v (Memᴰ.tail m) e))
  where
    go : (v : Waiting _) → SameWrite x v → In v l ⊎ In v (w ∷ []) → ⊥
    go v e (inl m) = p.0 v m e
    go v e (inr m) = h x (Memᴰ.head refl) (subst (λ u. SameWrite x u) (Memᴰ.eq_of_singleton m) e)
