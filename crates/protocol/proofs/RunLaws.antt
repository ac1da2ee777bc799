-- Laws of whole runs of planbook.
--
--   malformed-leaves   ==  lines that are not laid change nothing
--   start-refused      ==  after a no one line is printed, and no register
--   register-shown     ==  else the register is the machine's after the further lines
--   transcript-ends    ==  and a line for each further line, and then the register
--   set-calls          ==  the machine's set after lines is that after the calls that they make
--   reports-replies    ==  what is printed for lines is what the machine answers to these calls
--   reports-among, line-printed  ==  what is printed for a line among others, and where it stands
--   set-good           ==  what holds of a set reached by calls holds of the set after lines
--   length-shown       ==  how many bytes the machine shows
--   register-laid, length-register  ==  the register printed is one, of the length that line 1 gives
--   register-fits, transcript-fits  ==  it has at most 65,536 bytes, and the whole output at most 1,310,720
--   transcript-some    ==  something is printed for every input
--   transcript-cut     ==  an input that is cut off behind the limit prints what the whole does
use mathlib.Core.Path.{◌≡◌, refl, sym, ap, ◌∙◌}
use mathlib.Core.List.{List, [], ◌∷◌, ◌++◌, flat_map, append_assoc}
use mathlib.Core.Bool.{Bool, true, false}
use Prim.Native.Nat.{ℕ, zero, suc, ◌*◌, ◌≤◌, ◌<◌}
use native.Mathlib.Decide.{dec_lt}
use native.Mathlib.Omega.{arith}
use lib.ListN.{length, take, drop, length-append, length-drop}
use lib.Seq.{take_at, drop_at, take_all, length-take-le}
use Rattle.permutations.specs.Lists.{select}
use Rattle.permutations.proofs.SelectLaws.{select_yes, select_no}
use Rattle.layout.specs.Layout.{Shape, Entry, grid_size, layout_length, laid_out}
use Rattle.layout.proofs.LayoutLaws.{length-layout}
use Rattle.layout.proofs.RegisterLaws.{register-sized}
use Rattle.machine.specs.CallLists.{Call}
use Rattle.machine.specs.Machine.{shown, outcome, outcomes}
use Rattle.machine.proofs.MachineLaws.{Good, empty-good, register_of, good-register, laid, afterwards, afterwards-good}
use Rattle.protocol.specs.Input.{lines, further_lines, is_laid}
use Rattle.protocol.specs.Commands.{report, LineAnswer, answer_step, malformed, answer}
use Rattle.protocol.specs.Readings.{LineReading, says, calls, read_line, made_by, made_in, command_of}
use Rattle.protocol.specs.Transcript.{byte_limit, shape_in, start_no, reports, set_after, register_from, printed_from, printed_register, transcript}
use Rattle.protocol.specs.Programs.{output_limit}
use Rattle.protocol.specs.Demand3.{reply, replies, printed_line}
use Rattle.protocol.proofs.LineLaws.{lines-fewer}
use Rattle.protocol.proofs.ReportLaws.{length-report, length-answer, length-reports, malformed-answer}
use Rattle.protocol.proofs.ReadingLaws.{step_of, step-of-good, reading-answer}
use Rattle.protocol.proofs.StartLaws.{over-limit, start-pass, start-limits}

-- ---- lines that are not laid

pub malformed-leaves : (s : Shape) (l : List Entry) (ls : List (List ℕ)) → set_after s l ls ≡ set_after s l (select (is_laid (grid_size s)) ls)
unfolding set_after select malformed
malformed-leaves s l [] = refl
malformed-leaves s l (line ∷ ls) = go (λ k. malformed-leaves s k ls) (is_laid (grid_size s) line) refl
  where
    go : ((k : List Entry) → set_after s k ls ≡ set_after s k (select (is_laid (grid_size s)) ls)) → (t : Bool) → is_laid (grid_size s) line ≡ t →
        set_after s l (line ∷ ls) ≡ set_after s l (select (is_laid (grid_size s)) (line ∷ ls))
    go ih true e = ih (answer s l line).next ∙ ap (set_after s l) (sym (select_yes (is_laid (grid_size s)) line ls e))
    go ih false e = rw (malformed-answer s l line e) (ih l) ∙ ap (set_after s l) (sym (select_no (is_laid (grid_size s)) line ls e))

-- ---- what is printed

pub start-refused : (input : List ℕ) (k : ℕ) → start_no input ≡ suc k → (transcript input ≡ report 0 (suc k) 0) × (printed_register input ≡ [])
unfolding transcript printed_register printed_from register_from
start-refused input k e = (ap (λ (n : ℕ). printed_from n input) e, ap (λ (n : ℕ). register_from n input) e)

pub register-shown : (input : List ℕ) → start_no input ≡ 0 → printed_register input ≡ shown (shape_in input) (set_after (shape_in input) [] (further_lines input))
unfolding printed_register register_from
register-shown input e = ap (λ (n : ℕ). register_from n input) e

pub transcript-ends : (input : List ℕ) → start_no input ≡ 0 → transcript input ≡ reports (shape_in input) [] (further_lines input) ++ printed_register input
unfolding transcript printed_register printed_from
transcript-ends input e = ap (λ (n : ℕ). printed_from n input) e ∙ ap (λ (n : ℕ). reports (shape_in input) [] (further_lines input) ++ register_from n input) (sym e)

-- ---- the lines by their calls

module _ (s : Shape) (l : List Entry) (r : LineReading) (cs : List Call) where
  -- the machine's set and outcomes where a line read as r comes before other calls
  made-afterwards : afterwards s l (made_by r ++ cs) ≡ afterwards s (step_of s l r).next cs
  unfolding made_by afterwards step_of
  made-afterwards = go r
    where
      go : (r : LineReading) → afterwards s l (made_by r ++ cs) ≡ afterwards s (step_of s l r).next cs
      go (says k x) = refl
      go (calls k c) = refl

  made-replies : (ls : List (List ℕ)) → reply r (outcomes s l (made_by r ++ cs)) ++ replies s ls (drop (length (made_by r)) (outcomes s l (made_by r ++ cs)))
      ≡ report (command_of r) (step_of s l r).number (step_of s l r).place ++ replies s ls (outcomes s (step_of s l r).next cs)
  unfolding made_by outcomes outcome step_of command_of reply
  made-replies ls = go r
    where
      go : (r : LineReading) → reply r (outcomes s l (made_by r ++ cs)) ++ replies s ls (drop (length (made_by r)) (outcomes s l (made_by r ++ cs)))
          ≡ report (command_of r) (step_of s l r).number (step_of s l r).place ++ replies s ls (outcomes s (step_of s l r).next cs)
      go (says k x) = refl
      go (calls k c) = refl

pub set-calls : (s : Shape) (ls : List (List ℕ)) (l : List Entry) → Good s l → set_after s l ls ≡ afterwards s l (made_in s ls)
unfolding set_after afterwards made_in flat_map answer_step
set-calls s [] l g = refl
set-calls s (line ∷ ls) l g =
    let r = read_line s line in
    ap (λ (a : LineAnswer). set_after s a.next ls) (reading-answer s l g line)
    ∙ set-calls s ls (step_of s l r).next (step-of-good s l g r)
    ∙ sym (made-afterwards s l r (made_in s ls))

pub reports-replies : (s : Shape) (ls : List (List ℕ)) (l : List Entry) → Good s l → reports s l ls ≡ replies s ls (outcomes s l (made_in s ls))
unfolding reports replies made_in flat_map answer_step
reports-replies s [] l g = refl
reports-replies s (line ∷ ls) l g =
    let r = read_line s line in
    ap (λ (a : LineAnswer). a.printed ++ reports s a.next ls) (reading-answer s l g line)
    ∙ ap (λ (x : List ℕ). report (command_of r) (step_of s l r).number (step_of s l r).place ++ x) (reports-replies s ls (step_of s l r).next (step-of-good s l g r))
    ∙ sym (made-replies s l r (made_in s ls) ls)

-- ---- one line among the others

pub reports-among : (s : Shape) (before : List (List ℕ)) (line : List ℕ) (after : List (List ℕ)) (l : List Entry) →
    reports s l (before ++ (line ∷ after)) ≡ reports s l before ++ ((answer s (set_after s l before) line).printed ++ reports s (answer s (set_after s l before) line).next after)
unfolding reports set_after
reports-among s [] line after l = refl
reports-among s (x ∷ before) line after l =
    ap (λ (out : List ℕ). (answer s l x).printed ++ out) (reports-among s before line after (answer s l x).next)
    ∙ sym (append_assoc (answer s l x).printed (reports s (answer s l x).next before) _)

pub line-printed : (input : List ℕ) → start_no input ≡ 0 → (before : List (List ℕ)) (line : List ℕ) (after : List (List ℕ)) → further_lines input ≡ before ++ (line ∷ after) →
    printed_line (length before) (transcript input) ≡ (answer (shape_in input) (set_after (shape_in input) [] before) line).printed
unfolding printed_line
line-printed input e before line after f =
    let s = shape_in input in
    let a = answer s (set_after s [] before) line in
    let out = reports s [] before in
    ap (λ (x : List ℕ). take 19 (drop (19 * length before) x))
    (transcript-ends input e ∙ ap (λ (ls : List (List ℕ)). reports s [] ls ++ printed_register input) f ∙ ap (λ (x : List ℕ). x ++ printed_register input) (reports-among s before line after []) ∙ append_assoc out (a.printed ++ reports s a.next after) (printed_register input))
    ∙ ap (take 19) (drop_at out ((a.printed ++ reports s a.next after) ++ printed_register input) (19 * length before) (length-reports s [] before))
    ∙ ap (take 19) (append_assoc a.printed (reports s a.next after) (printed_register input))
    ∙ take_at a.printed (reports s a.next after ++ printed_register input) 19 (length-answer s (set_after s [] before) line)

-- ---- the register printed

pub set-good : (s : Shape) (l : List Entry) (ls : List (List ℕ)) → Good s l → Good s (set_after s l ls)
set-good s l ls g = rw (set-calls s ls l g) (afterwards-good s (made_in s ls) l g)

pub length-shown : (s : Shape) (l : List Entry) → Good s l → length (shown s l) ≡ layout_length s
unfolding shown register_of
length-shown s l g = let r = good-register s l g in length-layout (register_of s l) (register-sized (register_of s l) r) r.count_fits

module _ (input : List ℕ) (e : start_no input ≡ 0) where
  end-good : Good (shape_in input) (set_after (shape_in input) [] (further_lines input))
  end-good = set-good (shape_in input) [] (further_lines input) (empty-good (shape_in input) (start-limits input e).0)

  pub register-laid : laid_out (printed_register input) ≡ true
  register-laid = rw (register-shown input e) (laid (shape_in input) _ end-good)

  pub length-register : length (printed_register input) ≡ layout_length (shape_in input)
  length-register = ap length (register-shown input e) ∙ length-shown (shape_in input) _ end-good

pub register-fits : (input : List ℕ) → length (printed_register input) ≤ byte_limit
register-fits input = go (start_no input) refl
  where
    go : (k : ℕ) → start_no input ≡ k → length (printed_register input) ≤ byte_limit
    go zero e = omega (arith, length-register input e, (start-limits input e).1)
    go (suc k) e = rw (start-refused input k e).1 (omega arith)

pub transcript-fits : (input : List ℕ) → length (transcript input) ≤ output_limit
unfolding further_lines
transcript-fits input = go (start_no input) refl
  where
    go : (k : ℕ) → start_no input ≡ k → length (transcript input) ≤ output_limit
    go zero e =
        rw (transcript-ends input e, length-append (reports (shape_in input) [] (further_lines input)) (printed_register input), length-reports (shape_in input) [] (further_lines input))
        (omega (arith, length-drop 1 (lines input), lines-fewer input, ((start-pass input).0 e).input-short, register-fits input))
    go (suc k) e = rw (start-refused input k e).0 (omega (arith, length-report 0 (suc k) 0))

pub transcript-some : (input : List ℕ) → 0 < length (transcript input)
unfolding layout_length
transcript-some input = go (start_no input) refl
  where
    go : (k : ℕ) → start_no input ≡ k → 0 < length (transcript input)
    go zero e = rw (transcript-ends input e, length-append (reports (shape_in input) [] (further_lines input)) (printed_register input)) (omega (arith, length-register input e))
    go (suc k) e = rw (start-refused input k e).0 (omega (arith, length-report 0 (suc k) 0))

-- an input that is cut off behind the limit prints what the whole does
pub transcript-cut : (input : List ℕ) (n : ℕ) → byte_limit < n → transcript (take n input) ≡ transcript input
transcript-cut input n h = go (dec_lt n (length input))
  where
    go : Dec (n < length input) → transcript (take n input) ≡ transcript input
    go (yes long) =
        let z = length-take-le n input (omega arith) in
        (start-refused (take n input) 10 (over-limit (take n input) (omega arith))).0 ∙ sym (start-refused input 10 (over-limit input (omega arith))).0
    go (no short) = ap transcript (take_all n input (omega arith))
