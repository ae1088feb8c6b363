-- What a window shows: no entries where its bytes are all zero, and one entry more after each that it takes.
use Rattle.std.specs.Prelude.{ℕ, ◌+◌, ◌-◌, ◌*◌, ◌%◌, ◌≤◌, ◌<◌, ◌≡◌, refl, true, false, List, [], ◌∷◌, ◌++◌, eqb, leb, length, get_or}
use Rattle.std.proofs.Common.{arith, not-suc-le-zero, sym, ◌∙◌, ap, subst, ⊎_elim, eqb-true, eq-eqb, leb-true, leb-false}
use Rattle.std.proofs.Math.ListN.{get_or-append}
use Rattle.std.proofs.lemmas.List.{get_or_at}
use Rattle.std.proofs.lemmas.Bool.{eqb-false}
use Rattle.matrix.specs.Bytes.{number_at}
use Rattle.laws.specs.Tests.{way}
use Rattle.history.specs.Entries.{Entry, window_numbers, window_entries, refused_by, refused_of_late}
use Rattle.history.specs.Window.{count_place, next_place, window_bytes, entry_byte, no_entry, Shows}
use Rattle.history.specs.Calls.{entry}
use Rattle.window.specs.Changed.{refused_one, lowered, placed, raised, entered}
use Rattle.window.specs.Late.{hits, leaving, length_more, late_few, late_more}
use Rattle.window.specs.Bytes.{raised_byte, raised_same, raised_other}
use Rattle.window.proofs.Bytes.{lowered_byte, length_lowered, lowered_count, length_placed, placed_next, placed_here, placed_other, placed_count, length_entered}
use Rattle.window.specs.Shown.{other_hits}

module _ (w : List ℕ) (size : length w ≡ window_bytes) (zero : (j : ℕ) → j < window_bytes → get_or w j 0 ≡ 0) where
  pub zeros_show : Shows [] w
  unfolding number_at refused_by
  zeros_show =
      record {
        size = size;
        entries = λ m l. absurd (not-suc-le-zero l);
        unused = λ m l u. zero m (omega arith);
        counts = λ number l. omega (arith, zero (count_place number + 0) (omega arith), zero (count_place number + 1) (omega arith));
        next = zero next_place (omega arith);
      }

-- ---- one more entry
-- the byte and the count of an entry, by its outcome
entry_byte_lem : (number outcome : ℕ) → refused_one outcome * (number + 1) ≡ entry_byte (entry number outcome)
entry_byte_lem number outcome = ⊎_elim (λ t. rw t (omega arith)) (λ t. rw t (omega arith)) (way (eqb outcome 0))

entry_hits : (number outcome : ℕ) → hits number (entry number outcome) ≡ refused_one outcome
entry_hits number outcome = rw (eq-eqb number number refl) (⊎_elim (λ t. rw t refl) (λ t. rw t refl) (way (eqb outcome 0)))

pub one_few : (outcome : ℕ) → refused_one outcome ≤ 1
one_few outcome = ⊎_elim (λ t. rw t (omega arith)) (λ t. rw t (omega arith)) (way (eqb outcome 0))

module _ (h : List Entry) (w : List ℕ) (s : Shows h w) (number outcome : ℕ) (named : number < window_numbers) where
  abbrev e : Entry
  e = entry number outcome

  abbrev place : ℕ
  place = get_or w next_place 0

  within : place < window_entries
  within = omega (arith, s.next)

  -- the byte at the next place is that of the entry that leaves
  leaves : get_or w place 0 ≡ entry_byte (leaving h)
  leaves = ⊎_elim full few (way (leb window_entries (length h)))
    where
      full : leb window_entries (length h) ≡ true → get_or w place 0 ≡ entry_byte (leaving h)
      full t =
          let l : window_entries ≤ length h = leb-true window_entries (length h) t in
          let q : place ≡ (length h - window_entries) % window_entries = s.next ∙ (omega arith) in
          rw t (ap (λ (j : ℕ). get_or w j 0) q ∙ s.entries (length h - window_entries) (omega arith) (omega arith))

      few : leb window_entries (length h) ≡ false → get_or w place 0 ≡ entry_byte (leaving h)
      few t =
          let l : length h < window_entries = leb-false window_entries (length h) t in
          let q : place ≡ length h = s.next ∙ (omega arith) in
          rw t (ap (λ (j : ℕ). get_or w j 0) q ∙ s.unused (length h) (omega arith) l)

  -- the bytes after each of the three changes
  abbrev one : List ℕ
  one = lowered w (get_or w place 0)

  abbrev two : List ℕ
  two = placed one place (refused_one outcome * (number + 1))

  abbrev three : List ℕ
  three = raised two number (refused_one outcome)

  size_one : length one ≡ window_bytes
  size_one = length_lowered w (get_or w place 0) ∙ s.size

  size_two : length two ≡ window_bytes
  size_two = length_placed one place _ ∙ size_one

  -- an entry's byte other than the new one's
  kept_byte : (j : ℕ) → j < window_entries → (j ≡ place → ⊥) → get_or three j 0 ≡ get_or w j 0
  kept_byte j l n =
      raised_byte two size_two number _ named j (λ a b. omega arith) ∙ placed_other one size_one place _ within j n (λ q. omega arith)
      ∙ lowered_byte w (get_or w place 0) s.size j (λ a b. omega arith)

  new_byte : get_or three place 0 ≡ entry_byte e
  new_byte =
      raised_byte two size_two number _ named place (λ a b. omega arith) ∙ placed_here one size_one place _ within ∙ entry_byte_lem number outcome

  next : get_or three next_place 0 ≡ length (h ++ (e ∷ [])) % window_entries
  next =
      raised_byte two size_two number _ named next_place (λ a b. omega arith) ∙ placed_next one size_one place _ within
      ∙ omega (arith, s.next, length_more h e)

  entries : (m : ℕ) → m < length (h ++ (e ∷ [])) → length (h ++ (e ∷ [])) ≤ m + window_entries
      → get_or three (m % window_entries) 0 ≡ entry_byte (get_or (h ++ (e ∷ [])) m no_entry)
  entries m l u = ⊎_elim last earlier (way (eqb m (length h)))
    where
      last : eqb m (length h) ≡ true → get_or three (m % window_entries) 0 ≡ entry_byte (get_or (h ++ (e ∷ [])) m no_entry)
      last t =
          let q : m ≡ length h = eqb-true m (length h) t in
          let r : m % window_entries ≡ place = ap (λ (j : ℕ). j % window_entries) q ∙ sym s.next in
          ap (λ (j : ℕ). get_or three j 0) r ∙ new_byte ∙ sym (ap entry_byte (get_or_at h e [] no_entry m (sym q)))

      earlier : eqb m (length h) ≡ false → get_or three (m % window_entries) 0 ≡ entry_byte (get_or (h ++ (e ∷ [])) m no_entry)
      earlier t =
          let n : m ≡ length h → ⊥ = eqb-false m (length h) t in
          let b : m < length h = omega (arith, length_more h e) in
          kept_byte (m % window_entries) (omega arith) (λ q. omega (arith, s.next, length_more h e)) ∙ s.entries m b (omega (arith, length_more h e))
          ∙ sym (ap entry_byte (get_or-append h (e ∷ []) no_entry m b))

  unused : (m : ℕ) → length (h ++ (e ∷ [])) ≤ m → m < window_entries → get_or three m 0 ≡ 0
  unused m l u = kept_byte m u (λ q. omega (arith, s.next, length_more h e)) ∙ s.unused m (omega (arith, length_more h e)) u

  -- ---- the counts

  -- the entry that leaves was counted, as one more accepted entry would show
  counted : (other : ℕ) → hits other (leaving h) ≤ refused_of_late other h
  counted other = omega (arith, late_more other h no_entry)

  -- before the new entry is counted
  count_two : (other : ℕ) → other < window_numbers → number_at two (count_place other) 2 ≡ refused_of_late other h - hits other (leaving h)
  count_two other l =
      let c : number_at w (count_place other) 2 ≡ refused_of_late other h = s.counts other l in
      placed_count one size_one place _ within other l ∙ ap (λ (b : ℕ). number_at (lowered w b) (count_place other) 2) leaves
      ∙ lowered_count w s.size (leaving h) other l (omega (arith, counted other)) (omega (arith, late_few other h))
      ∙ ap (λ (x : ℕ). x - hits other (leaving h)) c

  -- the new entry's own count
  count_new : number_at three (count_place number) 2 ≡ refused_of_late number (h ++ (e ∷ []))
  count_new =
      let two_count : number_at two (count_place number) 2 ≡ refused_of_late number h - hits number (leaving h) = count_two number named in
      raised_same two size_two number _ named (omega (arith, late_few number h, one_few outcome))
      ∙ omega (arith, late_more number h e, counted number, entry_hits number outcome)

  counts : (other : ℕ) → other < window_numbers → number_at three (count_place other) 2 ≡ refused_of_late other (h ++ (e ∷ []))
  counts other l = ⊎_elim same different (way (eqb number other))
    where
      same : eqb number other ≡ true → number_at three (count_place other) 2 ≡ refused_of_late other (h ++ (e ∷ []))
      same t =
          subst (λ (m : ℕ). number_at three (count_place m) 2 ≡ refused_of_late m (h ++ (e ∷ []))) (eqb-true number other t) count_new

      different : eqb number other ≡ false → number_at three (count_place other) 2 ≡ refused_of_late other (h ++ (e ∷ []))
      different t =
          let n : number ≡ other → ⊥ = eqb-false number other t in
          raised_other two size_two number _ named other (λ q. n (sym q)) ∙ count_two other l
          ∙ omega (arith, late_more other h e, other_hits number outcome other n)

  pub entered_shows : Shows (h ++ (e ∷ [])) (entered w number (refused_one outcome))
  unfolding entered
  entered_shows = record { size = length_entered w number _ ∙ s.size; entries = entries; unused = unused; counts = counts; next = next }
