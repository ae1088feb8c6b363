-- The bytes of a list merged by one fold.
use Rattle.std.specs.Prelude.{ℕ, zero, suc, ◌≤◌, ◌≡◌, refl, List, eqb, length, get_or, take}
use Rattle.std.specs.List.{fold}
use Rattle.std.proofs.Common.{arith, add-one, sym, ◌∙◌, ap}
use Rattle.std.proofs.lemmas.List.Sums.{fold_more}
use Rattle.std.proofs.Math.Seq.{take-length}
use Rattle.std.specs.Int.Bits.{bit_or}
use Rattle.matrix.specs.Bounded.{all}
use Rattle.lanes.specs.Lanes.{merged}
use Rattle.lanes.specs.Zeros.{merged_zero}

-- the first i elements
fold_first : (l : List ℕ) (i : ℕ) → i ≤ length l → fold bit_or 0 (take i l) ≡ merged i (λ j. get_or l j 0)
unfolding merged
fold_first l zero h = refl
fold_first l (suc i) h = ap (λ (k : ℕ). fold bit_or 0 (take k l)) (sym (add-one i)) ∙ fold_more bit_or 0 l i 0 (omega arith) ∙ ap (λ (x : ℕ). bit_or x (get_or l i 0)) (fold_first l i (omega arith))

pub fold_merged : (l : List ℕ) → fold bit_or 0 l ≡ merged (length l) (λ j. get_or l j 0)
fold_merged l = ap (fold bit_or 0) (sym (take-length l)) ∙ fold_first l (length l) (omega arith)

-- all of them are zero
pub fold_zero : (l : List ℕ) → eqb (fold bit_or 0 l) 0 ≡ all (length l) (λ j. eqb (get_or l j 0) 0)
fold_zero l = ap (λ (x : ℕ). eqb x 0) (fold_merged l) ∙ merged_zero (length l) (λ j. get_or l j 0)
