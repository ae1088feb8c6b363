-- Records that hold a valid state: what is read from them, and what a command answers and leaves.
use Rattle.std.specs.Prelude.{ℕ, ◌≤◌, ◌≡◌, true, ◌&&◌, List}
use Rattle.std.proofs.Common.{arith, sym, ◌∙◌, subst, eqb-true, eq-eqb}
use Rattle.std.proofs.Math.Path.{ap}
use Rattle.std.proofs.Math.Bool.{cond}
use Rattle.std.proofs.Math.Dec.{eqb}
use Rattle.matrix.specs.declared.Fields.{Fields}
use Rattle.matrix.specs.Answers.{Answer}
use Rattle.matrix.specs.Step.{answer}
use Rattle.matrix.specs.Valid.{Valid}
use Rattle.matrix.specs.Shape.{limits, shape_of, width_of}
use Rattle.matrix.specs.Shaped.{Within, Octets}
use Rattle.matrix.specs.Reading.{Content, state_of, content, content_of, bytes_of}
use Rattle.matrix.specs.Record.{record_refusal}
use Rattle.matrix.specs.CommandList.{commands_of}
use Rattle.matrix.specs.Calls.{valid_answer, refusal_on, links_on, next_on, command_answer, command_bytes, ran_on}
use Rattle.codec.specs.ShapeRight.{ShapeRight}
use Rattle.codec.proofs.Written.{shape_write, shaped_write, octets_write}
use Rattle.codec.specs.RoundTrip.{within_read}
use Rattle.codec.proofs.RoundTrip.{shape_right, write_read}
use Rattle.owners.specs.Read.{record_shaped}
use Rattle.owners.proofs.Read.{valid_record, record_valid}
use Rattle.kept.proofs.Keeps.{on_keeps, run_keeps}
use Rattle.frame.proofs.Stays.{within_next, within_run}

-- a record that is not turned down, by the answer of the validity call
pub passes : (b : List ℕ) → valid_answer limits b ≡ true → record_refusal limits b ≡ 0
unfolding valid_answer
passes b h = eqb-true (record_refusal limits b) 0 h

pub valid_so : (b : List ℕ) → record_refusal limits b ≡ 0 → valid_answer limits b ≡ true
unfolding valid_answer
valid_so b h = eq-eqb (record_refusal limits b) 0 h

-- what a record that is not turned down holds
pub record Sound (m : Content) : Type 0 where
  pub shape : ShapeRight m.shape
  pub valid : Valid m.state
  pub within : Within m.shape m.state

pub sound_record : (b : List ℕ) → record_refusal limits b ≡ 0 → Sound (content_of b)
sound_record b h = record { shape = shape_right b (record_shaped b h); valid = valid_record b h; within = within_read b }

module _ (m : Content) (sound : Sound m) where
  -- it is read as it was written
  pub content_read : content_of (bytes_of m) ≡ m
  content_read = λ i. content (shape_write m.shape m.state sound.shape i) (write_read m.shape m.state sound.shape sound.within i)

  -- and is not turned down
  pub bytes_pass : record_refusal limits (bytes_of m) ≡ 0
  bytes_pass =
      record_valid (bytes_of m) (shaped_write m.shape m.state sound.shape)
      (subst Valid (sym (ap (λ (c : Content). c.state) content_read)) sound.valid)

  pub bytes_octets : Octets (bytes_of m)
  bytes_octets = octets_write m.shape m.state sound.shape

  module _ (c : Fields) where
    -- a command on it
    pub written_answer : command_answer limits (bytes_of m) c ≡ answer (refusal_on m.shape m.state c) (links_on m.shape m.state c)
    unfolding command_answer
    written_answer =
        ap (λ (k : ℕ). cond (eqb k 0) (answer (refusal_on (shape_of (bytes_of m)) (state_of (bytes_of m)) c) (links_on (shape_of (bytes_of m)) (state_of (bytes_of m)) c)) (Answer.Refused k 0)) bytes_pass
        ∙ ap (λ (r : Content). answer (refusal_on r.shape r.state c) (links_on r.shape r.state c)) content_read

    pub written_bytes : command_bytes limits (bytes_of m) c ≡ cond (eqb (refusal_on m.shape m.state c) 0) (bytes_of (content m.shape (next_on m.shape m.state c))) (bytes_of m)
    unfolding command_bytes
    written_bytes =
        ap (λ (k : ℕ). cond (eqb k 0 && eqb (refusal_on (shape_of (bytes_of m)) (state_of (bytes_of m)) c) 0) (bytes_of (content (shape_of (bytes_of m)) (next_on (shape_of (bytes_of m)) (state_of (bytes_of m)) c))) (bytes_of m)) bytes_pass
        ∙ ap (λ (r : Content). cond (eqb (refusal_on r.shape r.state c) 0) (bytes_of (content r.shape (next_on r.shape r.state c))) (bytes_of m)) content_read

    -- after it the record is such a record again
    pub sound_next : Sound (content m.shape (next_on m.shape m.state c))
    sound_next =
        let wide : 1 ≤ m.shape.width = let e : m.shape.width ≡ width_of m.shape.version = sound.shape.width in omega arith in
        record { shape = sound.shape; valid = on_keeps m.shape m.state c sound.valid; within = within_next m.shape m.state c wide sound.within }

-- what a list run on such a record comes to
pub sound_run : (b l : List ℕ) → Sound (content_of b) → Sound (content (shape_of b) (ran_on b l).state)
sound_run b l sound =
    let wide : 1 ≤ (shape_of b).width = let e : (shape_of b).width ≡ width_of (shape_of b).version = sound.shape.width in omega arith in
    record {
      shape = sound.shape;
      valid = run_keeps 0 (shape_of b) (state_of b) (commands_of l) sound.valid;
      within = within_run (shape_of b) (state_of b) (commands_of l) 0 wide sound.within;
    }
