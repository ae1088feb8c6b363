-- Laws of a history's last entries: one more entry counts, and the one that leaves no longer does.
use Prim.Native.Nat.{ℕ, suc, ◌+◌, ◌-◌, ◌≤◌, ◌<◌}
use native.Mathlib.Omega.{arith}
use Rattle.std.specs.Prelude.{◌≡◌, Bool, true, false, cond, ◌&&◌, List, [], ◌∷◌, ◌++◌, eqb, leb, get_or, drop}
use Rattle.std.proofs.Common.{sym, ◌∙◌, ⊎_elim, length-append, length-drop, drop-cons, leb-true, leb-false}
use Rattle.std.proofs.Math.Path.{ap}
use Rattle.std.proofs.Math.ListN.{length}
use Rattle.std.proofs.lemmas.List.{drop-append-le}
use Rattle.laws.specs.Tests.{way}
use Rattle.history.specs.Entries.{Entry, refused, window_entries, late, refused_by, refused_of_late}
use Rattle.history.specs.Window.{no_entry}

-- 1 where the entry is a refusal of the number's command
abbrev pub hits : ℕ → Entry → ℕ
hits number e = cond (refused e && eqb e.initiator number) 1 0

hits_few : (t : Bool) → cond t 1 0 ≤ 1
hits_few true = omega arith
hits_few false = omega arith

refused_by_append : (number : ℕ) (xs ys : List Entry) → refused_by number (xs ++ ys) ≡ refused_by number xs + refused_by number ys
unfolding refused_by
refused_by_append number [] ys = omega arith
refused_by_append number (x ∷ xs) ys =
    let e : refused_by number (xs ++ ys) ≡ refused_by number xs + refused_by number ys = refused_by_append number xs ys in
    omega arith

refused_by_one : (number : ℕ) (e : Entry) → refused_by number (e ∷ []) ≡ hits number e
unfolding refused_by
refused_by_one number e = omega arith

refused_by_length : (number : ℕ) (h : List Entry) → refused_by number h ≤ length h
unfolding refused_by
refused_by_length number [] = omega arith
refused_by_length number (e ∷ h) =
    let l : refused_by number h ≤ length h = refused_by_length number h in
    omega (arith, hits_few (refused e && eqb e.initiator number))

-- a count is at most 256
pub late_few : (number : ℕ) (h : List Entry) → refused_of_late number h ≤ window_entries
late_few number h =
    let l : length (late h) ≡ length h - (length h - window_entries) = length-drop (length h - window_entries) h in
    omega (arith, refused_by_length number (late h))

-- the entry that leaves when one more comes, if there are 256
abbrev pub leaving : List Entry → Entry
leaving h = cond (leb window_entries (length h)) (get_or h (length h - window_entries) no_entry) no_entry

-- a history with one entry more
pub length_more : (h : List Entry) (e : Entry) → length (h ++ (e ∷ [])) ≡ length h + 1
length_more h e = length-append h (e ∷ [])

module _ (number : ℕ) (h : List Entry) (e : Entry) where
  -- after the entries that are left out of both
  counted : (k : ℕ) → k ≤ length h → refused_by number (drop k (h ++ (e ∷ []))) ≡ refused_by number (drop k h) + hits number e
  counted k l =
      ap (refused_by number) (drop-append-le k h (e ∷ []) l) ∙ refused_by_append number (drop k h) (e ∷ [])
      ∙ ap (λ (x : ℕ). refused_by number (drop k h) + x) (refused_by_one number e)

  full : window_entries ≤ length h
      → refused_of_late number (h ++ (e ∷ [])) + hits number (get_or h (length h - window_entries) no_entry) ≡ refused_of_late number h + hits number e
  unfolding refused_by
  full l =
      let k : ℕ = length h - window_entries in
      let cut : length (h ++ (e ∷ [])) - window_entries ≡ suc k = omega (arith, length_more h e) in
      let new : refused_of_late number (h ++ (e ∷ [])) ≡ refused_by number (drop (suc k) h) + hits number e
      = ap (λ (j : ℕ). refused_by number (drop j (h ++ (e ∷ [])))) cut ∙ counted (suc k) (omega arith) in
      let old : refused_of_late number h ≡ hits number (get_or h k no_entry) + refused_by number (drop (suc k) h)
      = ap (refused_by number) (drop-cons h k no_entry (omega arith)) in
      omega arith

  few : length h < window_entries → refused_of_late number (h ++ (e ∷ [])) ≡ refused_of_late number h + hits number e
  few l =
      let cut : length (h ++ (e ∷ [])) - window_entries ≡ 0 = omega (arith, length_more h e) in
      let none : length h - window_entries ≡ 0 = omega arith in
      ap (λ (j : ℕ). refused_by number (drop j (h ++ (e ∷ [])))) cut ∙ counted 0 (omega arith)
      ∙ ap (λ (j : ℕ). refused_by number (drop j h) + hits number e) (sym none)

  -- one entry more: what is counted, with the entry that leaves, is what was counted, with the new one
  pub late_more : refused_of_late number (h ++ (e ∷ [])) + hits number (leaving h) ≡ refused_of_late number h + hits number e
  late_more =
      ⊎_elim (λ t. rw t (full (leb-true window_entries (length h) t)))
      (λ t. rw t (let z = few (leb-false window_entries (length h) t) in omega arith)) (way (leb window_entries (length h)))
