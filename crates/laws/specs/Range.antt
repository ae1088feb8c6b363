-- n and p within limits, as a test and as facts.
use Rattle.std.specs.Prelude.{◌≤◌, ◌≡◌, true, ◌&&◌, leb}
use Rattle.std.proofs.Common.{leb-true, le-leb}
use Rattle.matrix.specs.declared.Shape.{Shape}
use Rattle.matrix.specs.Shape.{Limits, in_range}
use Rattle.laws.specs.Tests.{and_left, and_right, and_both}

pub record Ranged (most : Limits) (f : Shape) : Type 0 where
  pub low : 1 ≤ f.n
  pub high : f.n ≤ most.subjects
  pub plain : f.p ≤ most.plain

pub ranged : (most : Limits) (f : Shape) → in_range most f ≡ true → Ranged most f
ranged most f h =
    let subjects = leb 1 f.n && leb f.n most.subjects in
    let both = and_left subjects (leb f.p most.plain) h in
    record {
      low = leb-true 1 f.n (and_left (leb 1 f.n) (leb f.n most.subjects) both);
      high = leb-true f.n most.subjects (and_right (leb 1 f.n) (leb f.n most.subjects) both);
      plain = leb-true f.p most.plain (and_right subjects (leb f.p most.plain) h);
    }

pub in_range_lem : (most : Limits) (f : Shape) → Ranged most f → in_range most f ≡ true
in_range_lem most f r =
    and_both (and_both (le-leb 1 f.n r.low) (le-leb f.n most.subjects r.high)) (le-leb f.p most.plain r.plain)
