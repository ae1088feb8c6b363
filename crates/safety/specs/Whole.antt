-- The whole question on a record: from what the code tests and tells to what the call promises.
use Rattle.std.specs.Prelude.{ℕ, zero, suc, ◌+◌, ◌≤◌, ◌<◌, ◌≡◌, refl, Bool, true, false, ◌&&◌, List, length}
use Rattle.std.proofs.Common.{arith, sym, ◌∙◌, ap, ap₂, subst, subst₂}
use Rattle.matrix.specs.declared.Name.{Name}
use Rattle.matrix.specs.declared.Right.{Right}
use Rattle.matrix.specs.declared.Shape.{Shape}
use Rattle.matrix.specs.Names.{column_of, name_of, named}
use Rattle.matrix.specs.Rights.{right_of}
use Rattle.matrix.specs.State.{State, held}
use Rattle.matrix.specs.Shape.{limits, most_subjects, shape_of, bits_of, basics_of}
use Rattle.matrix.specs.Reading.{state_of}
use Rattle.matrix.specs.Record.{record_refusal}
use Rattle.matrix.specs.Calls.{question_fits, holds_on}
use Rattle.laws.specs.Tests.{and_left}
use Rattle.codec.specs.Columns.{named_name_of}
use Rattle.codec.specs.RoundTrip.{within_read}
use Rattle.owners.proofs.Read.{valid_record}
use Rattle.cells.specs.Station.{Cell, Station, right_shape}
use Rattle.states.specs.Needs.{RightIn, BitIn}
use Rattle.holding.specs.Asked.{cell_asked}
use Rattle.question.specs.Safety.{Safety}
use Rattle.question.specs.Safety.{Refused}
use Rattle.question.specs.Trust.{trusted_by}
use Rattle.question.specs.Asked.{trust_fits, list_room, Answers}
use Rattle.route.specs.Parts.{basic_number}
use Rattle.ways.specs.Ways.{Way, held_now, by_star, by_creation, from_above, no_way, way_of, list_of}
use Rattle.decision.specs.Decides.{Says, decides}
use Rattle.telling.specs.declared.target.Target.{Target}
use Rattle.told.specs.Told.{Told}
use Rattle.told.specs.Decided.{Askable, told_decided, told_size}
use Rattle.safety.specs.Asks.{Asks, Headed}
use Rattle.safety.specs.Steps.{told_at, way_held}
use Rattle.safety.specs.Tellings.{number_in, column_few, told_held}
use Rattle.safety.specs.Turned.{turned_seven, turned_fifteen, answers}

-- the list of a way has at most n + 2 commands
few_said : (f : Shape) (S : State) (trusted : ℕ → Bool) (s : ℕ) (x : Name) (y : Right) (w : Way) → Says f S trusted s x y w → length (list_of S s x y w) ≤ f.n + 2
few_said f S trusted s x y held_now h = h.few
few_said f S trusted s x y (by_star i) h = h.few
few_said f S trusted s x y (by_creation v) h = h.few
few_said f S trusted s x y (from_above v ws) h = h.few
few_said f S trusted s x y no_way h = omega arith

-- the right of a code that is one of a cell's bits
right_in : (f : Shape) (code : ℕ) → code < bits_of f → RightIn f (right_of code)
right_in f zero h = tt
right_in f (suc zero) h = tt
right_in f (suc (suc j)) h = omega arith

module _ {b : List ℕ} {f : Shape} (valid : record_refusal limits b ≡ 0) (station : Station b f) where
  same_named : (x : Name) → named f.n f.p x ≡ true → named (shape_of b).n (shape_of b).p x ≡ true
  same_named x h = rw (← station.shape) h

  same_number : (y : Right) → RightIn f y → basic_number y < basics_of (shape_of b)
  same_number y h = rw (← station.shape) (number_in y (right_shape station) h)

  -- a question of the record's names and rights asks what its way needs
  pub asks_of : (trusted : ℕ → Bool) {t : Target} {out : List ℕ} → BitIn b f t.y t.s t.x → list_room (f.n + 2) ≤ length out → Asks b f t (way_of (state_of b) trusted t.s t.x t.y) out
  asks_of trusted {t} q room =
      let s = t.s in
      let x = t.x in
      let y = t.y in
      let w = way_of (state_of b) trusted s x y in
      let l : s < (shape_of b).n = rw (← station.shape) q.row in
      let h : length (list_of (state_of b) s x y w) ≤ (shape_of b).n + 2 = few_said (shape_of b) (state_of b) trusted s x y w (decides (shape_of b) (state_of b) trusted s x y (valid_record b valid) (within_read b) l (same_named x q.column) (same_number y q.right)) in
      record { bit = q; few = subst (λ (e : Shape). length (list_of (state_of b) s x y w) ≤ e.n + 2) (sym station.shape) h; room = room }

  fits_same : (mask s o right : ℕ) → (question_fits f s o right && trust_fits f mask) ≡ (question_fits (shape_of b) s o right && trust_fits (shape_of b) mask)
  fits_same mask s o right = ap (λ (e : Shape). question_fits e s o right && trust_fits e mask) station.shape

  module _ (mask s o right : ℕ) (out : List ℕ) {t : Bool} (fits : t ≡ (question_fits f s o right && trust_fits f mask)) where
    pub unfit : t ≡ false → Answers limits b mask s o right out out (Refused 7)
    unfit h = turned_seven b mask s o right out valid (fits ∙ fits_same mask s o right) h

    pub no_room : t ≡ true → length out < list_room (f.n + 2) → Answers limits b mask s o right out out (Refused 15)
    no_room fit l =
        turned_fifteen b mask s o right out valid (fits ∙ fits_same mask s o right) fit
        (subst (λ (e : Shape). length out < list_room (e.n + 2)) station.shape l)

-- a question that is not turned down: a valid record, numbers within its bounds, and room for the list
pub record Fitting (b : List ℕ) (f : Shape) (mask s o right : ℕ) (out : List ℕ) : Type 0 where
  pub valid : record_refusal limits b ≡ 0
  pub station : Station b f
  pub fit : (question_fits f s o right && trust_fits f mask) ≡ true
  pub room : list_room (f.n + 2) ≤ length out

module _ {b : List ℕ} {f : Shape} {mask s o right : ℕ} {out : List ℕ} (q : Fitting b f mask s o right out) where
  station : Station b f
  station = q.station

  -- its numbers are those of a cell of the record and of one of its bits
  pub asked : Cell b f s o × (right < bits_of f)
  asked = cell_asked b f s o right station refl (and_left (question_fits f s o right) (trust_fits f mask) q.fit)

  -- x and y are the name and the right that it asks for
  module _ {x : Name} {y : Right} (object : x ≡ name_of f.n o) (code : y ≡ right_of right) where
    pub bit_asked : BitIn b f y s x
    bit_asked =
        record {
          station = station;
          right = subst (RightIn f) (sym code) (right_in f right asked.1);
          row = asked.0.row;
          column = ap (λ (x : Name). named f.n f.p x) object ∙ named_name_of f.n f.p o asked.0.column;
        }

    -- so they are bytes
    pub subject_byte : s < most_subjects
    subject_byte = omega (arith, bit_asked.row, (right_shape station).high)

    pub column_byte : column_of x < 256
    column_byte = column_few x (right_shape station) bit_asked.column

    pub number_byte : basic_number y < 256
    number_byte = omega (arith, number_in y (right_shape station) bit_asked.right, (right_shape station).width_most)

    here : x ≡ name_of (shape_of b).n o
    here = object ∙ ap (λ (e : Shape). name_of e.n o) station.shape

    -- whether the right is held
    held_is : {u : Bool} (v : Bool) → u ≡ holds_on b s o right → u ≡ v → held (state_of b) y s x ≡ v
    held_is v e h = ap₂ (λ (y : Right) (x : Name). held (state_of b) y s x) code here ∙ sym e ∙ h

    pub unheld : {u : Bool} → u ≡ holds_on b s o right → u ≡ false → held (state_of b) y s x ≡ false
    unheld = held_is false

    askable : Askable b s o right out
    askable =
        record {
          valid = q.valid;
          subject = rw (← station.shape) bit_asked.row;
          object = subst (λ (z : Name). named (shape_of b).n (shape_of b).p z ≡ true) here (same_named q.valid station x bit_asked.column);
          basic = subst (λ (z : Right). basic_number z < basics_of (shape_of b)) code (same_number q.valid station y bit_asked.right);
          room = subst (λ (e : Shape). list_room (e.n + 2) ≤ length out) station.shape q.room;
        }

    pub answered : {out' : List ℕ} {r : Safety} → Told (state_of b) s x y (way_of (state_of b) (trusted_by mask) s x y) out out' r → Answers limits b mask s o right out out' r
    answered {out'} {r} h =
        let g : Told (state_of b) s (name_of (shape_of b).n o) (right_of right) (way_of (state_of b) (trusted_by mask) s (name_of (shape_of b).n o) (right_of right)) out out' r =
        subst₂ (λ (x : Name) (y : Right). Told (state_of b) s x y (way_of (state_of b) (trusted_by mask) s x y) out out' r) here code h in
        answers b mask s o right out q.valid (fits_same q.valid station mask s o right) q.fit askable.room (told_decided b mask s o right out askable g) (told_size b mask s o right out askable g)

    -- the right is held: the list is empty
    pub answered_held : {u : Bool} {out' : List ℕ} {r : Safety} → u ≡ holds_on b s o right → u ≡ true → Headed out out' 0 r → Answers limits b mask s o right out out' r
    answered_held e h g = answered (told_at (way_held (state_of b) (trusted_by mask) s x y (held_is true e h)) (told_held g))
