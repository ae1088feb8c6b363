-- The list that is printed stands in the buffer, of the right form.
use Rattle.std.proofs.Common.{ℕ, ap, arith, length-take}
use Rattle.question.specs.Safety.{decided_of}
use Rattle.asking.specs.Stands.{list_stands}
use Rattle.safety_question.proofs.main.Goals as goal

pub overflow_mul-out : goal.overflow_mul-out
overflow_mul-out c = let s = list_stands _ _ c.in-Ok.ensures (ap decided_of c.in-Some.is) in omega (arith, s.within)

pub overflow_add-out : goal.overflow_add-out
overflow_add-out c = let s = list_stands _ _ c.in-Ok.ensures (ap decided_of c.in-Some.is) in omega (arith, s.within)

pub slice_bounds-out-end : goal.slice_bounds-out-end
slice_bounds-out-end c = let s = list_stands _ _ c.in-Ok.ensures (ap decided_of c.in-Some.is) in omega (arith, s.within)

pub slice_bounds-read-end : goal.slice_bounds-read-end
slice_bounds-read-end c = let s = list_stands _ _ c.in-Ok.ensures (ap decided_of c.in-Some.is) in omega (arith, s.within, length-take {A = ℕ})
