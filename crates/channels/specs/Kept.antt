-- A pool keeps frames, and a message is told by its frame. Assumes nothing.
use Rattle.std.specs.Prelude.{◌≡◌, ℕ, Bool, true, false, cond, ◌&&◌, List, [], ◌∷◌, ◌++◌, length, Some, None, Ok, Option, nat_lt, refl}
use Rattle.std.proofs.Common.{sym, ap, ◌∙◌, subst, arith}
use mathlib.Core.List.Memᴰ
use mathlib.Core.List.{Memᴰ}
use Rattle.std.specs.Option.{option_map, is_none}
use Rattle.std.proofs.lemmas.Bool.Decides.{nat_tests}
use Rattle.std.proofs.lemmas.List.Folds.{list_all-append}
use Rattle.faults.specs.declared.fault.Fault.{Fault}
use Rattle.messages.specs.declared.message.Message.{Message}
use Rattle.frames.specs.Frames.{frame_fault, framed}
use Rattle.frames.proofs.RoundTrip.{read_framed, read_forth}
use Rattle.channels.specs.Frames.{is_frame, all_frames}
use Rattle.channels.specs.Places.{stored, NewestTaken}

pub same_frame : (m x : Message) → framed x ≡ framed m → x ≡ m
same_frame m x e = let same : Ok m ≡ Ok x = read_forth (framed m) x (Ok m) e (read_framed m) in sym (cc)

-- frames and one more are frames exactly where the others and it are
frames_and : (xs : List (List ℕ)) (bs : List ℕ) → all_frames (xs ++ (bs ∷ [])) ≡ (all_frames xs && (is_frame bs && true))
frames_and xs bs = list_all-append is_frame xs (bs ∷ [])

-- what is written of a message is a frame
pub frames_push : (xs : List (List ℕ)) (m : Message) → all_frames xs ≡ true → all_frames (xs ++ (framed m ∷ [])) ≡ true
frames_push xs m all = rw (frames_and xs (framed m)) (rw all (rw (read_framed m).0 refl))

stored_or_lost : (room : Bool) (xs ys : List (List ℕ)) (m : Message) → ys ≡ cond room (xs ++ (framed m ∷ [])) xs → all_frames xs ≡ true → all_frames ys ≡ true
stored_or_lost true xs ys m kept all = rw kept (frames_push xs m all)
stored_or_lost false xs ys m kept all = rw kept all

-- so a pool's frames and one that is sent are frames, stored or lost; the check finds this alone at a send, and here it can be cited
pub frames_stored : (xs ys : List (List ℕ)) (bs : List ℕ) (m : Message) → ys ≡ stored xs bs → bs ≡ framed m → all_frames xs ≡ true → all_frames ys ≡ true
frames_stored xs ys bs m kept written = stored_or_lost (nat_lt (length xs) 64) xs ys m (kept ∙ ap (stored xs) written)

both_are_true : (a b : Bool) → (a && (b && true)) ≡ true → (a ≡ true) × (b ≡ true)
both_are_true true true e = (refl, refl)
both_are_true true false e = grind (arith, nat_tests)
both_are_true false b e = grind (arith, nat_tests)

no_fault : (o : Option Fault) → is_none o ≡ true → o ≡ None
no_fault None e = refl
no_fault (Some fault) e = grind (arith, nat_tests)

-- of frames the newest is one, and so are those that are left
pub newest_frame : (xs ys : List (List ℕ)) (bs : List ℕ) → NewestTaken xs (Some bs) ys → all_frames xs ≡ true → (all_frames ys ≡ true) × (frame_fault bs ≡ None)
newest_frame xs ys bs taken all =
    let parts = both_are_true (all_frames ys) (is_frame bs) (sym (frames_and ys bs) ∙ sym (ap all_frames taken) ∙ all) in
    (parts.0, no_fault (frame_fault bs) parts.1)

pub frames_left : (xs ys : List (List ℕ)) (o : Option (List ℕ)) → NewestTaken xs o ys → all_frames xs ≡ true → all_frames ys ≡ true
frames_left xs ys None taken all = ap all_frames taken.1
frames_left xs ys (Some bs) taken all = (newest_frame xs ys bs taken all).0

-- of what waits after a take, all waited before
pub waited : (xs ys : List (List ℕ)) (o : Option Message) (x : Message) → NewestTaken xs (option_map framed o) ys → Memᴰ (framed x) ys → Memᴰ (framed x) xs
waited xs ys None x (before, after) held = subst (λ (l : List (List ℕ)). Memᴰ (framed x) l) (after ∙ sym before) held
waited xs ys (Some m) x left held = subst (λ (l : List (List ℕ)). Memᴰ (framed x) l) (sym left) (Memᴰ.append_left (framed m ∷ []) held)

pub last_waited : (xs ys : List (List ℕ)) (m : Message) → xs ≡ ys ++ (framed m ∷ []) → Memᴰ (framed m) xs
last_waited xs ys m left = subst (λ (l : List (List ℕ)). Memᴰ (framed m) l) (sym left) (Memᴰ.append_right ys (Memᴰ.head refl))
