-- `window::put` meets its contract.
use Rattle.std.proofs.Common.{ℕ, List, ◌++◌, arith, sym, ◌∙◌, ap, ap₂, append-nil, refl}
use Rattle.std.proofs.lemmas.List.{take_all, drop_all}
use Rattle.std.proofs.lemmas.Result.{err_from_is_err_and}
use Rattle.laws.specs.Refusals.{some_number}
use Rattle.history.specs.Window.{window_bytes}
use Rattle.window.specs.Changed.{refused_one, entered}
use Rattle.window.proofs.Flags.{refused_is}
use Rattle.window.proofs.Answered.{put_refused, put_other, put_taken}
use Rattle.window.proofs.put.Goals as goal

pub returns-in_err-number : goal.returns-in_err-number
returns-in_err-number c =
    let p = err_from_is_err_and c.from_residual.result c.from_residual.ensures.1 in
    rw (p.1, p.2) (put_refused _ c.in_err-number.ensures.refusal (some_number _))

pub returns-then-w-ne-WINDOW_BYTES : goal.returns-then-w-ne-WINDOW_BYTES
returns-then-w-ne-WINDOW_BYTES c = put_other _ c.in_ok-number.ensures.refusal c.if-w-ne-WINDOW_BYTES.true

pub enter-requires : goal.enter-requires
enter-requires c = c.in_ok-number.ensures.same.1

pub returns : goal.returns
returns c =
    let a = c.args in
    let w = a.w.now in
    let first = rw c.unwrap.ensures at c.first_chunk_mut.ensures.cases in
    put_taken a.outcome c.in_ok-number.ensures.refusal refl c.if-w-ne-WINDOW_BYTES.false
    (ap (λ (l : List ℕ). c.enter.new.w ++ l) (drop_all window_bytes w (omega arith)) ∙ append-nil c.enter.new.w
    ∙ c.enter.ensures
    ∙ ap₂ (λ (l : List ℕ) (x : ℕ). entered l c.in_ok-number.number x) (first.same ∙ take_all window_bytes w (omega arith)) (refused_is a.outcome)
    ∙ ap (λ (n : ℕ). entered w n (refused_one a.outcome)) c.in_ok-number.ensures.same.0)
