-- Demand 2 holds.
use Prim.Native.Nat.{ℕ, ◌-◌, ◌≤◌, ◌<◌}
use Rattle.std.proofs.Common.{arith, ◌∙◌, inl, inr, eqb-true, lt-ltb, le-ltb}
use Rattle.std.specs.Prelude.{◌≡◌, ◌≢◌, ◌↔◌, ◌⊎◌, Bool, ◌||◌, eqb, take}
use Rattle.std.proofs.Math.Path.{refl, sym, ap, ap₂, subst}
use Rattle.std.proofs.Math.Logic.{⊎_elim}
use Rattle.std.proofs.Math.Bool.{true, false, cond}
use mathlib.Core.List.{List}
use Rattle.std.proofs.Math.Seq.{take_at}
use Rattle.matrix.specs.declared.Name.{Name}
use Rattle.matrix.specs.declared.Name.TheVariants.{Subject, Plain}
use Rattle.matrix.specs.declared.Right.TheVariants.{Own, Control, Basic}
use Rattle.matrix.specs.declared.Act.{Act}
use Rattle.matrix.specs.declared.Act.TheVariants.{Transfer, Grant, Delete, CreateObject, DestroyObject, CreateSubject, DestroySubject}
use Rattle.matrix.specs.declared.Command.{Command}
use Rattle.matrix.specs.declared.Fields.{Fields}
use Rattle.matrix.specs.Answers.{Answer}
use Rattle.matrix.specs.Answers.{Accepted}
use Rattle.matrix.specs.declared.Numbers.{Numbers}
use Rattle.matrix.specs.Names.{is_subject, name_of}
use Rattle.matrix.specs.Numbers.{numbers, command_numbers}
use Rattle.matrix.specs.Rights.{right_of}
use Rattle.matrix.specs.State.{State, has}
use Rattle.matrix.specs.Owners.{walk, links_of}
use Rattle.matrix.specs.Commands.{Raw, rule_of, decode}
use Rattle.matrix.specs.Bytes.{bytes_of_number, joined}
use Rattle.matrix.specs.Step.{walk_links, refusal, links, next}
use Rattle.matrix.specs.declared.Shape.{Shape}
use Rattle.matrix.specs.Shape.{limits, shape_of, basics_of, bits_of, columns, cell_place}
use Rattle.matrix.specs.Shaped.{Octets}
use Rattle.matrix.specs.Reading.{Content, state_of, content, content_of, header, row_of, cell_at, cell_of, bytes_of}
use Rattle.matrix.specs.Record.{record_refusal}
use Rattle.matrix.specs.Calls.{valid_answer, raw_of, names_fit, refusal_on, links_on, next_on, command_answer, command_result, command_bytes, run_refusal, ran_on, run_bytes}
use Rattle.laws.specs.Tests.{way}
use Rattle.laws.specs.Numbers.{command_numbers_lem}
use Rattle.codec.specs.Bits.{from_bits_same}
use Rattle.codec.specs.Cells.{cell_inside}
use Rattle.codec.specs.Numbers.{bytes_number_at}
use Rattle.codec.proofs.Written.{length_header, shaped_write, cell_write}
use Rattle.codec.specs.RoundTrip.{read_write}
use Rattle.owners.specs.Read.{record_shaped}
use Rattle.owners.proofs.Read.{record_links}
use Rattle.frame.proofs.Untouched.{untouched_next}
use Rattle.frame.specs.Answers.{links_only, links_only_three, links_only_subjects}
use Rattle.demands.specs.First.{NoneHolds}
use Rattle.demands.specs.Printed.{run_conditions}
use Rattle.demands.proofs.Refusals.{run_numbered}
use Rattle.demands.specs.Records.{passes, valid_so, Sound, sound_record, content_read, bytes_pass, bytes_octets, sound_next, sound_run}
use Rattle.demands.proofs.Turns.{run_valid}
use Rattle.demands.proofs.Demand1Holds.{command_number}
use Rattle.demands.specs.Demand2.{cell_bytes, Unnamed, NextRight, Allowed, refusal_for, links_for, RunLeaves, Demand2}

-- ---- records and what they hold

written_same : (b : List ℕ) → Octets b → valid_answer limits b ≡ true → bytes_of (content_of b) ≡ b
written_same b octets valid = read_write b (record_shaped b (passes b valid)) octets

read_same : (b c : List ℕ) → Octets b → Octets c → valid_answer limits b ≡ true → valid_answer limits c ≡ true → content_of b ≡ content_of c → b ≡ c
read_same b c o p v w e = sym (written_same b o v) ∙ ap bytes_of e ∙ written_same c p w

-- the bytes of a cell that a record holds, and those before the first cell
module _ (m : Content) (sound : Sound m) where
  held_shape : shape_of (bytes_of m) ≡ m.shape
  held_shape = ap (λ (c : Content). c.shape) (content_read m sound)

  held_cell : (r d : ℕ) → r < m.shape.n → d < columns m.shape → cell_bytes (bytes_of m) r d ≡ bytes_of_number m.shape.width (cell_of m.shape m.state r d)
  unfolding cell_at
  held_cell r d row column =
      sym (bytes_number_at b (cell_place (shape_of b) r d) (shape_of b).width (bytes_octets m sound) (cell_inside b r d (shaped_write m.shape m.state sound.shape) (rw held_shape row) (rw held_shape column)))
      ∙ ap₂ (λ (f : Shape) (v : ℕ). bytes_of_number f.width v) held_shape (cell_write m.shape m.state r d sound.shape row column)
    where
      b : List ℕ
      b = bytes_of m

  held_header : take m.shape.first (bytes_of m) ≡ header m.shape
  unfolding bytes_of
  held_header = take_at (header m.shape) (joined m.shape.n (row_of m.shape m.state)) m.shape.first (length_header m.shape sound.shape)

-- ---- an accepted command

module _ (b : List ℕ) (c : Fields) where
  abbrev f : Shape
  f = shape_of b

  abbrev S : State
  S = state_of b

  -- the value of the answer
  value_is : links_for b c ≡ cond (eqb (record_refusal limits b) 0) (links_on f S c) 0
  unfolding command_result
  value_is = ap (λ (r : Numbers). r.value) (command_numbers_lem b c refl) ∙ picked (eqb (record_refusal limits b) 0)
    where
      picked : (t : Bool) → (cond t (numbers (refusal_on f S c) (links_on f S c)) (numbers (record_refusal limits b) 0)).value ≡ cond t (links_on f S c) 0
      picked true = refl
      picked false = refl

  module _ (followed : ℕ) (e : command_answer limits b c ≡ Accepted followed) where
    none : cond (eqb (record_refusal limits b) 0) (refusal_on f S c) (record_refusal limits b) ≡ 0
    none = sym (command_number b c) ∙ ap (λ (r : Answer). (command_numbers r).refusal) e

    record_passes : record_refusal limits b ≡ 0
    record_passes =
        ⊎_elim (λ t. eqb-true (record_refusal limits b) 0 t) (λ t. let z : record_refusal limits b ≡ 0 = rw t at none in z) (way (eqb (record_refusal limits b) 0))

    taken : refusal_on f S c ≡ 0
    taken = rw record_passes at none

    followed_is : links_on f S c ≡ followed
    followed_is =
        let v : cond (eqb (record_refusal limits b) 0) (links_on f S c) 0 ≡ followed = sym value_is ∙ ap (λ (r : Answer). (command_numbers r).value) e in
        rw record_passes at v

    m : Content
    m = content f (next_on f S c)

    sound : Sound m
    unfolding m
    sound = sound_next (content_of b) (sound_record b record_passes) c

    bytes_are : command_bytes limits b c ≡ bytes_of m
    unfolding command_bytes m
    bytes_are = rw (record_passes, taken) refl

    next_right : Octets b → NextRight b c
    unfolding m next_on
    next_right octets =
        record {
          valid = ap (valid_answer limits) bytes_are ∙ valid_so (bytes_of m) (bytes_pass m sound);
          octets = subst Octets (sym bytes_are) (bytes_octets m sound);
          shape = ap shape_of bytes_are ∙ held_shape m sound;
          state = ap state_of bytes_are ∙ ap (λ (r : Content). r.state) (content_read m sound);
          header = ap (take f.first) bytes_are ∙ held_header m sound ∙ sym (held_header (content_of b) before) ∙ ap (take f.first) same;
          cells = λ r d row column unnamed.
              ap (λ (x : List ℕ). cell_bytes x r d) bytes_are ∙ held_cell m sound r d row column
              ∙ ap (bytes_of_number f.width) (bits r d unnamed) ∙ sym (held_cell (content_of b) before r d row column) ∙ ap (λ (x : List ℕ). cell_bytes x r d) same;
        }
      where
        before : Sound (content_of b)
        before = sound_record b record_passes

        same : bytes_of (content_of b) ≡ b
        same = read_write b (record_shaped b record_passes) octets

        bits : (r d : ℕ) → Unnamed b c r d → cell_of f (next_on f S c) r d ≡ cell_of f S r d
        bits r d unnamed =
            from_bits_same (bits_of f) (λ j. has (next_on f S c) (right_of j) r (name_of f.n d)) (λ j. has S (right_of j) r (name_of f.n d))
            (λ j l. untouched_next (basics_of f) (names_fit f c) S (raw_of f c) (right_of j) r (name_of f.n d) (unnamed (right_of j)))

  accepted_so : record_refusal limits b ≡ 0 → refusal_on f S c ≡ 0 → command_answer limits b c ≡ Accepted (links_on f S c)
  unfolding command_answer
  accepted_so valid allowed = rw (valid, allowed) refl

-- ---- the links

cond_few : (t : Bool) (m n : ℕ) → (t ≡ true → m ≤ n) → cond t m 0 ≤ n
cond_few true m n h = h refl
cond_few false m n h = omega arith

walk_few : (b : List ℕ) → record_refusal limits b ≡ 0 → (c : Command) (a : Act) → walk_links (state_of b) c a ≤ (shape_of b).n - 1
walk_few b h c (Transfer Own) =
    cond_few (is_subject c.o) _ ((shape_of b).n - 1)
    (λ _. let l : links_of (walk (state_of b) c.s c.o) < (shape_of b).n = record_links b h c.s c.o in omega arith)
walk_few b h c (Transfer Control) = omega arith
walk_few b h c (Transfer (Basic k g)) = omega arith
walk_few b h c (Grant y) = omega arith
walk_few b h c (Delete y) = omega arith
walk_few b h c CreateObject = omega arith
walk_few b h c DestroyObject = omega arith
walk_few b h c CreateSubject = omega arith
walk_few b h c DestroySubject = omega arith

links_few : (b : List ℕ) (c : Fields) → links_for b c ≤ (shape_of b).n - 1
unfolding links_on links
links_few b c =
    subst (λ (k : ℕ). k ≤ (shape_of b).n - 1) (sym (value_is b c))
    (cond_few (eqb (record_refusal limits b) 0) _ ((shape_of b).n - 1)
    (λ t. cond_few (eqb number 0 || eqb number 13) _ ((shape_of b).n - 1) (λ u. walk_few b (eqb-true (record_refusal limits b) 0 t) (decode (raw_of (shape_of b) c)) (decode (raw_of (shape_of b) c)).act)))
  where
    number : ℕ
    number = refusal (basics_of (shape_of b)) (names_fit (shape_of b) c) (state_of b) (raw_of (shape_of b) c)

linked : (number : ℕ) (followed : ℕ) → (number ≡ 0) ⊎ (number ≡ 13) → cond (eqb number 0 || eqb number 13) followed 0 ≡ followed
linked number followed (inl e) = rw e refl
linked number followed (inr e) = rw e refl

module _ (b : List ℕ) (c : Fields) where
  abbrev raw : Raw
  raw = raw_of (shape_of b) c

  -- where the record passes, the number is the command's
  number_is : record_refusal limits b ≡ 0 → refusal_for b c ≡ refusal (basics_of (shape_of b)) (names_fit (shape_of b) c) (state_of b) raw
  unfolding refusal_on
  number_is h = command_number b c ∙ rw h refl

  walked : valid_answer limits b ≡ true → c.code ≡ 3 → c.o < (shape_of b).n → (refusal_for b c ≡ 0) ⊎ (refusal_for b c ≡ 13)
      → links_for b c ≡ links_of (walk (state_of b) c.s (Subject c.o))
  unfolding links_on links
  walked valid three subject number =
      let z = passes b valid in
      value_is b c ∙ ap (λ (k : ℕ). cond (eqb k 0) (links_on (shape_of b) (state_of b) c) 0) z
      ∙ linked _ _ (subst (λ (k : ℕ). (k ≡ 0) ⊎ (k ≡ 13)) (number_is z) number)
      ∙ ap (λ (code : ℕ). walk_links (state_of b) (decode raw) (rule_of code c.k).act) three
      ∙ ap (λ (t : Bool). linked_over (cond t (Subject c.o) (Plain c.o))) (lt-ltb c.o (shape_of b).n subject)
    where
      linked_over : Name → ℕ
      linked_over x = cond (is_subject x) (links_of (walk (state_of b) c.s x)) 0

  -- no links where the command's are none on every record that passes
  none_linked : (record_refusal limits b ≡ 0 → links (basics_of (shape_of b)) (names_fit (shape_of b) c) (state_of b) raw ≡ 0) → links_for b c ≡ 0
  unfolding links_on
  none_linked none = value_is b c ∙ ⊎_elim (λ t. rw t (none (eqb-true (record_refusal limits b) 0 t))) (λ t. rw t refl) (way (eqb (record_refusal limits b) 0))

  silent : (c.code ≢ 3) ⊎ ((refusal_for b c ≢ 0) × (refusal_for b c ≢ 13)) → links_for b c ≡ 0
  silent (inl other) = none_linked (λ z. links_only_three (basics_of (shape_of b)) (names_fit (shape_of b) c) (state_of b) raw other)
  silent (inr other) =
      none_linked (λ z. links_only (basics_of (shape_of b)) (names_fit (shape_of b) c) (state_of b) raw (λ e. other.0 (number_is z ∙ e)) (λ e. other.1 (number_is z ∙ e)))

  object : (shape_of b).n ≤ c.o → links_for b c ≡ 0
  object h =
      none_linked (λ z. links_only_subjects (basics_of (shape_of b)) (names_fit (shape_of b) c) (state_of b) raw (rw (le-ltb c.o (shape_of b).n h) refl))

-- ---- a list run

run_read : (b l : List ℕ) → Octets b → NoneHolds (run_conditions b l) → RunLeaves b l
unfolding run_bytes
run_read b l octets h =
    let passed : run_refusal limits b l ≡ 0 = (run_numbered b l).answered.1 h in
    let before = sound_record b (run_valid b l passed) in
    let m : Content = content (shape_of b) (ran_on b l).state in
    let sound : Sound m = sound_run b l before in
    record {
      valid = rw passed (valid_so (bytes_of m) (bytes_pass m sound));
      octets = rw passed (bytes_octets m sound);
      read = rw passed (content_read m sound);
    }

-- ---- the demand

allowed : (b : List ℕ) (c : Fields) (followed : ℕ) → (command_answer limits b c ≡ Accepted followed) ↔ Allowed b c followed
unfolding refusal_on links_on
allowed b c followed = (
  λ e. record { valid = valid_so b (record_passes b c followed e); accepted = taken b c followed e; walked = followed_is b c followed e },
  λ h. accepted_so b c (passes b h.valid) h.accepted ∙ ap Accepted h.walked,
)

pub demand_2 : Demand2
demand_2 =
    record {
      accepted = allowed;
      next = λ b c followed octets e. next_right b c followed e octets;
      links = λ b c. record { walked = walked b c; silent = silent b c; object = object b c; few = links_few b c };
      written = written_same;
      same = read_same;
      run = run_read;
    }
