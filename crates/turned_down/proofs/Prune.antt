-- Faulty programs for prune do not meet demand 2, or its contract.
--
--   low9, high9, low10, high10  ==  the bounds of the marked plans M9 and M10
--   Computed, computed  ==  the small cases that show it
--   form, form9, form0, form10  ==  bounds of which every question gets a yes
--   exact, at-m9, at-zeros, at-m10, empty  ==  the outcome is exact; of these forms, and of any that is called empty
--   order-call, refusal ==  a call that question 8 refuses; what a refusal answers and leaves
--   obeyed9, obeyed0, none10  ==  some grid in the bounds of M9 has allperm, and that of zeros has; none in those of M10 has
--   The other names are those of the faults.
use mathlib.Core.Path.{◌≡◌, refl, sym, ap, ◌∙◌}
use mathlib.Core.List.{List, [], ◌∷◌, flat_map}
use mathlib.Core.Bool.{true, false, true≢false}
use Prim.Native.Nat.{ℕ, suc, ◌*◌}
use native.Mathlib.Omega.{arith}
use lib.ListN.{length, drop, get_or}
use Rattle.permutations.specs.Lists.{tabulate, numbers, select, every, some, occurrences, All}
use Rattle.permutations.specs.Permutations.{is_permutation, words, permutations}
use Rattle.grids.specs.Order.{rank, leq, equal}
use Rattle.grids.specs.Grids.{capped, row, permuted_row}
use Rattle.grids.specs.Questions.{first_no, in_range, question1, question2, question3, question6, question7}
use Rattle.bounds.specs.Bounds.{ranks_within, between, fillings, grids_within}
use Rattle.bounds.specs.Kept.{Obeyed, Kept, obeyed, keeps, kept_values, lowest_from, lowest, kept_low, removed_values, removed}
use Rattle.bounds.specs.Allperm.{Allperm, allperm}
use Rattle.bounds.specs.Prune.{Pruned, pruned_to, question8, bounds_questions, prune_questions}
use Rattle.bounds.specs.Demand2.{ExactSome, ExactNone, Exact, PruneProgram, PruneExact, MeetsPrune}
use Rattle.grids.proofs.LentLaws.{tested-lent}
use Rattle.bounds.proofs.KeptLaws.{obeyed-decides, keeps-decides}
use Rattle.bounds.proofs.AllpermLaws.{allperm-decides}
use Rattle.bounds.proofs.PruneLaws.{prune-pass, prunes-refused}
use Rattle.turned_down.specs.PruneFaults.{Form, pruned_by, Side, lows, highs, left_on, sent_on, NeverPrunes, NeverEmpty, RemovesNothing, RaisesNoLow, LowersNoHigh, unsorted, PrunesUnsorted, InventsRemoved, WritesEmpty, CountsEmpty, ShortensBounds, LeavesAboveTop, RefusedCall, refused_by, IgnoresOrder, PruneWritesRefusing, CountsRefusing, prune_faults}
use Rattle.turned_down.specs.Faults.{fault, Turned}
use Rattle.turned_down.proofs.Differences.{unequal}

abbrev low9 : List ℕ
low9 = 1 ∷ 0 ∷ 0 ∷ 0 ∷ []

abbrev high9 : List ℕ
high9 = 3 ∷ 3 ∷ 1 ∷ 2 ∷ []

abbrev low10 : List ℕ
low10 = 2 ∷ 0 ∷ []

abbrev high10 : List ℕ
high10 = 3 ∷ 1 ∷ []

abbrev zeros : List ℕ
zeros = 0 ∷ 0 ∷ 0 ∷ 0 ∷ []

record Computed : Type 0 where
  m9-asked : first_no (prune_questions 2 2 3 low9 high9) ≡ 0
  m9-obeyed : obeyed (allperm 2 2) 4 3 low9 high9 ≡ true
  m9-capped : keeps (allperm 2 2) 4 3 low9 high9 0 3 ≡ false
  m9-raised : keeps (allperm 2 2) 4 3 low9 high9 3 0 ≡ false
  m9-unsorted : kept_low (unsorted 2 2) 4 3 low9 high9 ≡ 1 ∷ 0 ∷ 1 ∷ 0 ∷ []
  m9-removed : removed (allperm 2 2) 4 3 low9 high9 ≡ 5
  zeros-asked : first_no (prune_questions 2 2 3 zeros zeros) ≡ 0
  zeros-obeyed : obeyed (allperm 2 2) 4 3 zeros zeros ≡ true
  zeros-removed : removed (allperm 2 2) 4 3 zeros zeros ≡ 0
  m10-asked : first_no (prune_questions 2 1 3 low10 high10) ≡ 0
  m10-none : obeyed (allperm 2 1) 2 3 low10 high10 ≡ false
  order-asked : first_no (prune_questions 1 1 1 (1 ∷ []) (0 ∷ [])) ≡ 8

computed : Computed
unfolding tabulate numbers select every some occurrences flat_map is_permutation words permutations rank leq capped row permuted_row first_no in_range question1 question2 question3 question6 question7 ranks_within between fillings grids_within obeyed keeps kept_values lowest_from lowest kept_low removed_values removed allperm question8 bounds_questions unsorted
computed = record {
  m9-asked = refl;
  m9-obeyed = refl;
  m9-capped = refl;
  m9-raised = refl;
  m9-unsorted = refl;
  m9-removed = refl;
  zeros-asked = refl;
  zeros-obeyed = refl;
  zeros-removed = refl;
  m10-asked = refl;
  m10-none = refl;
  order-asked = refl;
}

obeyed9 : Obeyed (Allperm 2 2) 4 3 low9 high9
obeyed9 = (obeyed-decides (Allperm 2 2) (allperm 2 2) (allperm-decides 2 2) 4 3 low9 high9).0 computed.m9-obeyed

obeyed0 : Obeyed (Allperm 2 2) 4 3 zeros zeros
obeyed0 = (obeyed-decides (Allperm 2 2) (allperm 2 2) (allperm-decides 2 2) 4 3 zeros zeros).0 computed.zeros-obeyed

none10 : Obeyed (Allperm 2 1) 2 3 low10 high10 → ⊥
none10 o = true≢false (sym ((obeyed-decides (Allperm 2 1) (allperm 2 1) (allperm-decides 2 1) 2 3 low10 high10).1 o) ∙ computed.m10-none)

-- a value that no grid in the bounds of M9 with allperm has
pruned9 : (k v : ℕ) → keeps (allperm 2 2) 4 3 low9 high9 k v ≡ false → Kept (Allperm 2 2) 4 3 low9 high9 k v → ⊥
pruned9 k v e h = true≢false (sym ((keeps-decides (Allperm 2 2) (allperm 2 2) (allperm-decides 2 2) 4 3 low9 high9 k v).1 h) ∙ e)

-- ---- the forms

form : (m n top : ℕ) (low high : List ℕ) → first_no (prune_questions m n top low high) ≡ 0 → Form
form m n top low high e = let p = (prune-pass m n top low high).0 e in record {
  rows = m;
  columns = n;
  top = top;
  low = low;
  high = high;
  limits = p.0;
  bounds = p.1;
}

abbrev form9 : Form
form9 = form 2 2 3 low9 high9 computed.m9-asked

abbrev form0 : Form
form0 = form 2 2 3 zeros zeros computed.zeros-asked

abbrev form10 : Form
form10 = form 2 1 3 low10 high10 computed.m10-asked

module _ (f : PruneProgram) (c : PruneExact f) where
  exact : (x : Form) → Exact x.rows x.columns x.top x.low x.high (pruned_by f x)
  unfolding PruneExact
  exact x = c x.rows x.columns x.top x.low x.high x.limits x.bounds

  at-m9 : ExactSome 2 2 3 low9 high9 (f 2 2 3 low9 high9)
  unfolding form
  at-m9 = (exact form9).some obeyed9

  at-zeros : ExactSome 2 2 3 zeros zeros (f 2 2 3 zeros zeros)
  unfolding form
  at-zeros = (exact form0).some obeyed0

  at-m10 : ExactNone low10 high10 (f 2 1 3 low10 high10)
  unfolding form
  at-m10 = (exact form10).none none10

  -- the low of the last cell of M9 is raised
  unraised : (f 2 2 3 low9 high9).low ≡ low9 → ⊥
  unfolding rank
  unraised e =
      let l = ap (λ (x : List ℕ). get_or x 3 0) e in
      pruned9 3 0 computed.m9-raised ((at-m9.exact 3 0 (omega arith) (omega arith)).1 (omega arith, omega arith))

  -- a form with 102 has no grid
  empty : (x : Form) → (pruned_by f x).number ≡ 102 → ExactNone x.low x.high (pruned_by f x)
  empty x e = (exact x).none (λ o. omega (arith, ((exact x).some o).number_is))

never-prunes : Turned (fault PruneExact NeverPrunes)
unfolding NeverPrunes form
never-prunes = record {
  example = λ m n top low high. pruned_to 102 0 low high;
  done = λ x z. omega arith;
  refused = λ f d c. d form9 (at-m9 f c).number_is;
}

never-empty : Turned (fault PruneExact NeverEmpty)
unfolding NeverEmpty form
never-empty = record {
  example = λ m n top low high. pruned_to 0 0 low high;
  done = λ x z. omega arith;
  refused = λ f d c. d form10 (at-m10 f c).number_is;
}

removes-nothing : Turned (fault PruneExact RemovesNothing)
unfolding RemovesNothing form
removes-nothing = record {
  example = λ m n top low high. pruned_to 0 0 low high;
  done = λ x z. (refl, refl);
  refused = λ f d c. unraised f c (d form9 (at-m9 f c).number_is).0;
}

raises-no-low : Turned (fault PruneExact RaisesNoLow)
unfolding RaisesNoLow form
raises-no-low = record {
  example = λ m n top low high. pruned_to 0 0 low high;
  done = λ x z. refl;
  refused = λ f d c. unraised f c (d form9 (at-m9 f c).number_is);
}

lowers-no-high : Turned (fault PruneExact LowersNoHigh)
unfolding LowersNoHigh rank form
lowers-no-high = record {
  example = λ m n top low high. pruned_to 0 0 low high;
  done = λ x z. refl;
  refused = λ f d c.
      let h = ap (λ (x : List ℕ). get_or x 0 0) (d form9 (at-m9 f c).number_is) in
      let k = ((at-m9 f c).ends 0 (omega arith)).0 in
      let l = k.inside.capped 0 (omega arith) in
      let e = k.has in
      pruned9 0 3 computed.m9-capped (((at-m9 f c).exact 0 3 (omega arith) (omega arith)).1 (omega arith, omega arith));
}

prunes-unsorted : Turned (fault PruneExact PrunesUnsorted)
unfolding PrunesUnsorted rank form
prunes-unsorted = record {
  example = λ m n top low high. pruned_to 0 0 (kept_low (unsorted m n) (m * n) top low high) high;
  done = λ x z. refl;
  refused = λ f d c.
      let l = ap (λ (x : List ℕ). get_or x 3 0) (d form9 (at-m9 f c).number_is ∙ computed.m9-unsorted) in
      pruned9 3 0 computed.m9-raised (((at-m9 f c).exact 3 0 (omega arith) (omega arith)).1 (omega arith, omega arith));
}

invents-removed : Turned (fault PruneExact InventsRemoved)
unfolding InventsRemoved form
invents-removed = record {
  example = λ m n top low high. pruned_to 0 0 low high;
  done = λ x y z z'. refl;
  refused = λ f d c.
      let e = d form9 form0 (at-m9 f c).number_is (at-zeros f c).number_is in
      let x = (at-m9 f c).counts ∙ computed.m9-removed in
      let y = (at-zeros f c).counts ∙ computed.zeros-removed in
      omega arith;
}

-- ---- what is left

writes-empty : (side : Side) → Turned (fault PruneExact (WritesEmpty side))
unfolding form equal
writes-empty side = record {
  example = λ m n top low high. pruned_to 102 0 [] [];
  done = record { on = form10; empty = refl; changed = wrong side };
  refused = λ f d c. d.changed (kept side d.on _ (empty f c d.on d.empty));
}
  where
    wrong : (side : Side) → left_on side (pruned_to 102 0 [] []) ≡ sent_on side low10 high10 → ⊥
    wrong lows = unequal [] low10 refl
    wrong highs = unequal [] high10 refl

    kept : (side : Side) (x : Form) (r : Pruned) → ExactNone x.low x.high r → left_on side r ≡ sent_on side x.low x.high
    kept lows x r e = e.low-kept
    kept highs x r e = e.high-kept

counts-empty : Turned (fault PruneExact CountsEmpty)
unfolding form
counts-empty = record {
  example = λ m n top low high. pruned_to 102 1 low high;
  done = record { on = form10; empty = refl; counts = λ z. omega arith };
  refused = λ f d c. d.counts (empty f c d.on d.empty).counts;
}

shortens-bounds : (side : Side) → Turned (fault PruneExact (ShortensBounds side))
unfolding form
shortens-bounds side = record {
  example = λ m n top low high. pruned_to 0 0 (drop 1 low) (drop 1 high);
  done = record { on = form9; some = obeyed9; unsized = short side };
  refused = λ f d c. d.unsized (sized side d.on _ ((exact f c d.on).some d.some));
}
  where
    short : (side : Side) → length (left_on side (pruned_to 0 0 (drop 1 low9) (drop 1 high9))) ≡ 4 → ⊥
    short lows z = omega arith
    short highs z = omega arith

    sized : (side : Side) (x : Form) (r : Pruned) → ExactSome x.rows x.columns x.top x.low x.high r → length (left_on side r) ≡ x.rows * x.columns
    sized lows x r e = e.low-size
    sized highs x r e = e.high-size

leaves-above-top : Turned (fault PruneExact LeavesAboveTop)
unfolding form
leaves-above-top = record {
  example = λ m n top low high. pruned_to 0 0 low (suc top ∷ []);
  done = record { on = form9; some = obeyed9; cell = 0; inside = omega arith; above = omega arith };
  refused = λ f d c.
      let k = (((exact f c d.on).some d.some).ends d.cell d.inside).1 in
      omega (arith, d.above, k.inside.capped d.cell d.inside, k.has);
}

-- ---- what is refused

order-call : RefusedCall
order-call = record {
  rows = 1;
  columns = 1;
  top = 1;
  low = 1 ∷ [];
  high = 0 ∷ [];
  lent = tested-lent _ _ _ _ _ refl;
  no = 7;
  first = computed.order-asked;
}

refusal : (f : PruneProgram) → MeetsPrune f → (x : RefusedCall) → refused_by f x ≡ pruned_to (suc x.no) 0 x.low x.high
unfolding MeetsPrune
refusal f c x = prunes-refused _ _ _ _ _ _ (c x.rows x.columns x.top x.low x.high x.lent) x.no x.first

ignores-order : Turned (fault MeetsPrune IgnoresOrder)
unfolding order-call
ignores-order = record {
  example = λ m n top low high. pruned_to 0 0 low high;
  done = record { on = order-call; order = refl; ignored = λ z. omega arith };
  refused = λ f d c. d.ignored (ap (λ (r : Pruned). r.number) (refusal f c d.on) ∙ ap suc d.order);
}

prune-writes-refusing : (side : Side) → Turned (fault MeetsPrune (PruneWritesRefusing side))
unfolding order-call equal
prune-writes-refusing side = record {
  example = λ m n top low high. pruned_to 8 0 [] [];
  done = record { on = order-call; changed = wrong side };
  refused = λ f d c. d.changed (ap (left_on side) (refusal f c d.on) ∙ same side d.on);
}
  where
    wrong : (side : Side) → left_on side (pruned_to 8 0 [] []) ≡ sent_on side (1 ∷ []) (0 ∷ []) → ⊥
    wrong lows = unequal [] (1 ∷ []) refl
    wrong highs = unequal [] (0 ∷ []) refl

    same : (side : Side) (x : RefusedCall) → left_on side (pruned_to (suc x.no) 0 x.low x.high) ≡ sent_on side x.low x.high
    same lows x = refl
    same highs x = refl

counts-refusing : Turned (fault MeetsPrune CountsRefusing)
unfolding order-call
counts-refusing = record {
  example = λ m n top low high. pruned_to 8 1 low high;
  done = record { on = order-call; counts = λ z. omega arith };
  refused = λ f d c. d.counts (ap (λ (r : Pruned). r.count) (refusal f c d.on));
}

pub prunes-turned : All Turned prune_faults
unfolding prune_faults
prunes-turned = (never-prunes, (never-empty, (removes-nothing, (raises-no-low, (lowers-no-high, (prunes-unsorted, (invents-removed, (writes-empty lows, (writes-empty highs, (counts-empty, (shortens-bounds lows, (shortens-bounds highs, (leaves-above-top, (ignores-order, (prune-writes-refusing lows, (prune-writes-refusing highs, (counts-refusing, tt)))))))))))))))))
