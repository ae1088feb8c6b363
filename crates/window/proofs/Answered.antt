-- What the calls promise, from the facts at the places where they answer.
use Rattle.std.specs.Prelude.{ℕ, ◌≡◌, refl, List, [], ◌∷◌, ◌++◌, length}
use Rattle.std.proofs.Common.{sym, ◌∙◌, ap, subst}
use Rattle.matrix.specs.Numbers.{numbers}
use Rattle.history.specs.Entries.{window_refusal}
use Rattle.history.specs.Window.{window_bytes, Shows}
use Rattle.history.specs.Calls.{entry, Put}
use Rattle.window.specs.Changed.{refused_one, entered}
use Rattle.window.proofs.Shown.{entered_shows}
use Rattle.window.specs.Answered.{named_of}

module _ {w : List ℕ} {number m : ℕ} (outcome : ℕ) (said : m ≡ window_refusal number) where
  -- ---- one more entry

  pub put_refused : (m ≡ 0 → ⊥) → Put w number outcome w (numbers m 0)
  put_refused n =
      record {
        answer = ap (λ (k : ℕ). numbers k 0) said;
        refused = λ z. refl;
        shows = λ z. absurd (n (said ∙ z));
        other = λ z. refl;
      }

  pub put_other : (length w ≡ window_bytes → ⊥) → Put w number outcome w (numbers m 0)
  put_other n =
      record {
        answer = ap (λ (k : ℕ). numbers k 0) said;
        refused = λ z. refl;
        shows = λ z h s. absurd (n s.size);
        other = λ z. refl;
      }

  pub put_taken : m ≡ 0 → length w ≡ window_bytes → {w' : List ℕ} → w' ≡ entered w number (refused_one outcome) → Put w number outcome w' (numbers m 0)
  put_taken zero size e =
      record {
        answer = ap (λ (k : ℕ). numbers k 0) said;
        refused = λ z. absurd (z (sym said ∙ zero));
        shows = λ z h s. subst (Shows (h ++ (entry number outcome ∷ []))) (sym e) (entered_shows h w s number outcome (named_of number z));
        other = λ z. absurd (z size);
      }
