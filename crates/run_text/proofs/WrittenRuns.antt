-- What is written of a run is its text.
use Rattle.std.proofs.Common.{◌≡◌, ◌≢◌, ℕ, suc, ◌+◌, ◌-◌, ◌*◌, ◌/◌, ◌<◌, ◌≤◌, ◌^◌, false, true, List, [], ◌∷◌, ◌++◌, length, Some, Ok, codes, decimal, refl, ap, sym, ◌∙◌, arith, subst, inr, append-nil, append_assoc, length-append}
use Rattle.std.specs.Prelude.{All}
use Rattle.std.specs.List.{AllByRecursion}
use Rattle.std.proofs.lemmas.Bool.{false≢true}
use Rattle.std.proofs.lemmas.List.Elements.{All-head, All-tail}
use Rattle.std.proofs.lemmas.Nat.{le-div, mul-le}
use Rattle.pgas_base.specs.Shapes.{IsShape}
use Rattle.pgas_base.specs.Starts.{IsStart}
use Rattle.pgas_base.specs.declared.shapes.Shape.{Shape}
use Rattle.pgas_base.specs.declared.starts.Start.{Start}
use Rattle.line_text.specs.Lines.{line_says}
use Rattle.line_text.specs.Texts.{Standing, count_of, standing, HasText, IsOpen}
use Rattle.line_text.proofs.Standings.{open_nothing}
use Rattle.line_text.proofs.Written.{front_open, front_says, front_stands, written_open, written_stands}
use Rattle.run_text.specs.declared.drafts.Stage.TheVariants as stage
use Rattle.run_text.specs.declared.forms.RunLine.{RunLine}
use Rattle.run_text.specs.declared.forms.RunLine.TheVariants as line
use Rattle.run_text.specs.declared.forms.Spot.TheVariants.{First, ShapeWord, Locales, Tokens, Objects, Width, StartWord, Epoch, Count, Stack, SeatsWord, Seats}
use Rattle.run_text.specs.declared.runs.StepLine.{StepLine}
use Rattle.run_text.specs.Drawn.{Drawn}
use Rattle.line_text.specs.Ranges.{between}
use Rattle.run_text.specs.Forms.{objects_most, run_grammar, width_most}
use Rattle.run_text.specs.Runs.{IsOpening, IsStep, PlainRun}
use Rattle.run_text.specs.RunText.{ends_run, is_step, opening, run_rules, run_text, start_of}
use Rattle.run_text.specs.Written.{head_text, numbered, seats_words, shape_words, start_words, step_line, step_words, steps_text, version_words, ReadBack}
use Rattle.run_text.proofs.WrittenSteps.{Writes, number_part, number_step, of_words, step_writes, word_part}

-- ---- the lines before the steps

version_writes : Writes First version_words line.Version
version_writes =
    of_words First 112 (codes "gas-run") (codes "1" ∷ []) line.Version (λ e. omega (arith, e))
    (word_part (codes "pgas-run") refl refl, (word_part (codes "1") refl refl, tt)) (omega arith) refl

objects_fit : (shape : Shape) → IsShape shape → shape.objects ≤ objects_most shape.locales
objects_fit shape is =
    let room : shape.objects ≤ 2 ^ 25 / (4 * shape.locales) =
    le-div shape.objects (2 ^ 25) (4 * shape.locales) (omega (arith, is.0.0)) (omega (arith, is.4, mul-le (shape.locales * shape.objects) 4 (shape.locales * shape.objects) (shape.width + 2) (omega arith) (omega (arith, is.3.0)))) in
    omega (arith, room, is.2.1)

width_fits : (shape : Shape) → IsShape shape → shape.width ≤ width_most shape.locales shape.objects
width_fits shape is =
    let room : shape.width + 2 ≤ 2 ^ 25 / (shape.locales * shape.objects) =
    le-div (shape.width + 2) (2 ^ 25) (shape.locales * shape.objects) (omega (arith, mul-le 1 1 shape.locales shape.objects is.0.0 is.2.0)) (omega (arith, is.4)) in
    omega (arith, room, is.3.1)

shape_writes : (shape : Shape) → IsShape shape → Writes ShapeWord (shape_words shape) (line.Shape shape)
shape_writes shape is =
    let l = shape.locales in
    let t = shape.tokens in
    let o = shape.objects in
    let w = shape.width in
    subst (λ (d : List ℕ). Writes ShapeWord (codes "shape " ++ (decimal l ++ 32 ∷ (decimal t ++ 32 ∷ (decimal o ++ 32 ∷ d)))) (line.Shape shape)) (append-nil (decimal w))
    (of_words ShapeWord 115 (codes "hape") (decimal l ∷ decimal t ∷ decimal o ∷ decimal w ∷ []) (line.Shape shape) (λ e. omega (arith, e)) (
      word_part (codes "shape") refl refl,
      (number_part l (omega (arith, is.0.1)), (number_part t (omega (arith, is.1.1)), (number_part o (omega (arith, is.2.1)), (number_part w (omega (arith, is.3.1)), tt)))),
    ) (omega arith)
    (number_step Locales (between 1 16) l (decimal t ∷ decimal o ∷ decimal w ∷ []) (omega (arith, is.0.1)) refl refl is.0.0 is.0.1
    ∙ (number_step (Tokens l) (between 1 1024) t (decimal o ∷ decimal w ∷ []) (omega (arith, is.1.1)) refl refl is.1.0 is.1.1
    ∙ (number_step (Objects l t) (between 1 (objects_most l)) o (decimal w ∷ []) (omega (arith, is.2.1)) refl refl is.2.0 (objects_fit shape is)
    ∙ number_step (Width l t o) (between 2 (width_most l o)) w [] (omega (arith, is.3.1)) refl refl is.3.0 (width_fits shape is)))))

start_writes : (start : Start) → IsStart start → start.count < 2 ^ 32 → Writes StartWord (start_words start) (line.Start start)
start_writes start is fits =
    let e = start.epoch in
    let n = start.count in
    let k = start.stack in
    subst (λ (d : List ℕ). Writes StartWord (codes "start " ++ (decimal e ++ 32 ∷ (decimal n ++ 32 ∷ d))) (line.Start start)) (append-nil (decimal k))
    (of_words StartWord 115 (codes "tart") (decimal e ∷ decimal n ∷ decimal k ∷ []) (line.Start start) (λ e. omega (arith, e)) (
      word_part (codes "start") refl refl,
      (number_part e (omega (arith, is.epoch)), (number_part n (omega (arith, fits)), (number_part k (omega (arith, is.stack)), tt))),
    ) (omega arith)
    (number_step Epoch (between 1 (2 ^ 62)) e (decimal n ∷ decimal k ∷ []) (omega (arith, is.epoch)) refl refl is.some_epoch is.epoch
    ∙ (number_step (Count e) (between 0 (2 ^ 32 - 1)) n (decimal k ∷ []) (omega (arith, fits)) refl refl (omega arith) (omega (arith, fits))
    ∙ number_step (Stack e n) (between 0 (2 ^ 40 - 1)) k [] (omega (arith, is.stack)) refl refl (omega arith) (omega (arith, is.stack)))))

seats_writes : (seats : ℕ) → 1 ≤ seats → seats ≤ 1024 → Writes SeatsWord (seats_words seats) (line.Seats seats)
seats_writes seats some few =
    subst (λ (d : List ℕ). Writes SeatsWord (codes "seats " ++ d) (line.Seats seats)) (append-nil (decimal seats))
    (of_words SeatsWord 115 (codes "eats") (decimal seats ∷ []) (line.Seats seats) (λ e. omega (arith, e))
    (word_part (codes "seats") refl refl, (number_part seats (omega (arith, few)), tt)) (omega arith)
    (number_step Seats (between 1 1024) seats [] (omega (arith, few)) refl refl some few))

-- ---- where lines lead

-- where these lines have led
abbrev Stood : List ℕ → Drawn → ℕ → ℕ → Type 0
Stood read drawn lines counted = (standing run_text read ≡ record { progress = drawn; part = []; lines = lines; counted = counted; size = length read }) × IsOpen run_text read

line_on : (read text : List ℕ) (drawn : Drawn) (said : RunLine) (lines counted : ℕ) → Stood read drawn lines counted → Writes (start_of drawn.stage) text said → ends_run (Some said) ≡ false
    → (is_step (Some said) ≡ true → counted < 2 ^ 20) → length read + 321 ≤ 2 ^ 30
    → Stood (read ++ (text ++ 10 ∷ [])) (run_rules.after drawn (Some said)) (lines + 1) (counted + count_of run_text (Some said)) × (length (read ++ (text ++ 10 ∷ [])) ≤ length read + 321)
line_on read text drawn said lines counted stood writes goes few room =
    let fits : length read + length text ≤ 2 ^ 30 = omega (arith, room, writes.short) in (
      (
        written_stands run_text read text drawn (Some said) lines counted stood.0 stood.1 writes.within writes.says fits,
        written_open run_text read text drawn (Some said) lines counted stood.0 stood.1 writes.within writes.says fits goes few (omega (arith, room, writes.short)),
      ),
      omega (arith, length-append read (text ++ 10 ∷ []), length-append text (10 ∷ []), writes.short),
    )

-- what so many lines and these steps make of the run
abbrev drawn_at : PlainRun → ℕ → List StepLine → Drawn
drawn_at run lines done = record { lines = lines; stage = stage.Steps; shape = run.shape; start = run.start; seats = run.seats; steps = done }

head_on : (run : PlainRun) → IsOpening run.shape run.start run.seats → run.start.count < 2 ^ 32 → Stood (head_text run) (drawn_at run 4 []) 4 0 × (length (head_text run) ≤ 1284)
head_on run is fits =
    let v = version_words ++ 10 ∷ [] in
    let h = shape_words run.shape ++ 10 ∷ [] in
    let s = start_words run.start ++ 10 ∷ [] in
    let n = seats_words run.seats ++ 10 ∷ [] in
    let one = line_on [] version_words opening line.Version 0 0 (refl, open_nothing run_text) version_writes refl (λ e. absurd (false≢true e)) (omega arith) in
    let two = line_on v (shape_words run.shape) (run_rules.after opening (Some line.Version)) (line.Shape run.shape) 1 0 one.0 (shape_writes run.shape is.shape_is) refl (λ e. absurd (false≢true e)) (omega (arith, one.1)) in
    let three = line_on (v ++ h) (start_words run.start) (run_rules.after (run_rules.after opening (Some line.Version)) (Some (line.Shape run.shape))) (line.Start run.start) 2 0 two.0 (start_writes run.start is.start_is fits) refl (λ e. absurd (false≢true e)) (omega (arith, one.1, two.1)) in
    let four = line_on ((v ++ h) ++ s) (seats_words run.seats) (run_rules.after (run_rules.after (run_rules.after opening (Some line.Version)) (Some (line.Shape run.shape))) (Some (line.Start run.start))) (line.Seats run.seats) 3 0 three.0
    (seats_writes run.seats is.some_seat is.few_seats) refl (λ e. absurd (false≢true e)) (omega (arith, one.1, two.1, three.1)) in
    let same : ((v ++ h) ++ s) ++ n ≡ head_text run = refl in
    subst (λ (t : List ℕ). Stood t (drawn_at run 4 []) 4 0 × (length t ≤ 1284)) same (four.0, omega (arith, one.1, two.1, three.1, four.1))

steps_on : (run : PlainRun) (steps done : List StepLine) (read : List ℕ) (lines counted : ℕ) → All (λ (l : StepLine). IsStep l.step) steps → counted + length steps ≤ 2 ^ 20
    → length read + 321 * length steps + 321 ≤ 2 ^ 30 → Stood read (drawn_at run lines done) lines counted
    → Stood (read ++ steps_text steps) (drawn_at run (lines + length steps) (done ++ numbered (lines + 1) steps)) (lines + length steps) (counted + length steps) × (length (read ++ steps_text steps) ≤ length read + 321 * length steps)
steps_on run [] done read lines counted all few room stood =
    subst (λ (r : List ℕ). Stood r (drawn_at run (lines + 0) (done ++ [])) (lines + 0) (counted + 0) × (length r ≤ length read + 321 * 0)) (sym (append-nil read))
    (subst (λ (d : List StepLine). Stood read (drawn_at run (lines + 0) d) (lines + 0) (counted + 0) × (length read ≤ length read + 321 * 0)) (sym (append-nil done))
    (subst (λ n. Stood read (drawn_at run n done) n (counted + 0) × (length read ≤ length read + 321 * 0)) (omega arith)
    (subst (λ n. Stood read (drawn_at run lines done) lines n × (length read ≤ length read + 321 * 0)) (omega arith) (stood, omega arith))))
steps_on run (l ∷ steps) done read lines counted all few room stood =
    let own = All-head (λ (k : StepLine). IsStep k.step) l steps all in
    let more : StepLine = record { line = lines + 1; step = l.step } in
    let first = line_on read (step_words l.step) (drawn_at run lines done) (line.Step l.step) lines counted stood (step_writes l.step own) refl (λ e. omega (arith, few)) (omega (arith, room)) in
    let others = steps_on run steps (done ++ more ∷ []) (read ++ step_line l.step) (lines + 1) (counted + 1) (All-tail (λ (k : StepLine). IsStep k.step) l steps all) (omega (arith, few)) (omega (arith, room, first.1)) first.0 in
    subst (λ (r : List ℕ). Stood r (drawn_at run (lines + suc (length steps)) (done ++ numbered (lines + 1) (l ∷ steps))) (lines + suc (length steps)) (counted + suc (length steps)) × (length r ≤ length read + 321 * suc (length steps)))
    (append_assoc read (step_line l.step) (steps_text steps))
    (subst (λ (d : List StepLine). Stood ((read ++ step_line l.step) ++ steps_text steps) (drawn_at run (lines + suc (length steps)) d) (lines + suc (length steps)) (counted + suc (length steps)) × (length ((read ++ step_line l.step) ++ steps_text steps) ≤ length read + 321 * suc (length steps)))
    (append_assoc done (more ∷ []) (numbered (lines + 1 + 1) steps))
    (subst (λ n. Stood ((read ++ step_line l.step) ++ steps_text steps) (drawn_at run n ((done ++ more ∷ []) ++ numbered (lines + 1 + 1) steps)) n (counted + suc (length steps)) × (length ((read ++ step_line l.step) ++ steps_text steps) ≤ length read + 321 * suc (length steps))) (omega arith)
    (subst (λ n. Stood ((read ++ step_line l.step) ++ steps_text steps) (drawn_at run (lines + 1 + length steps) ((done ++ more ∷ []) ++ numbered (lines + 1 + 1) steps)) (lines + 1 + length steps) n × (length ((read ++ step_line l.step) ++ steps_text steps) ≤ length read + 321 * suc (length steps))) (omega arith)
    (others.0, omega (arith, others.1, first.1)))))

-- ---- the line `end`

module _ (read : List ℕ) (drawn : Drawn) (lines counted : ℕ) (stood : Stood read drawn lines counted) (steps : drawn.stage ≡ stage.Steps) (room : length read + 321 ≤ 2 ^ 30) where
  ends : line_says run_grammar (start_of drawn.stage) (codes "end") ≡ Ok (Some line.End)
  ends = ap (λ s. line_says run_grammar (start_of s) (codes "end")) steps

  within : AllByRecursion (λ byte. byte ≢ 10) (codes "end")
  within = ((λ e. omega (arith, e)), ((λ e. omega (arith, e)), ((λ e. omega (arith, e)), tt)))

  fits : length read + length (codes "end") ≤ 2 ^ 30
  fits = omega (arith, room)

  pub ended : HasText run_text (read ++ (codes "end" ++ 10 ∷ [])) (Unit {0}) (run_rules.after drawn (Some line.End))
  ended = record {
    front = read ++ codes "end";
    said = Some line.End;
    opened = front_open run_text read (codes "end") drawn (Some line.End) lines counted stood.0 stood.1 within ends fits;
    last = front_says run_text read (codes "end") drawn (Some line.End) lines counted stood.0 stood.1 within ends fits;
    within = λ e. absurd (false≢true e);
    makes = ap (λ (a : Standing Drawn). run_rules.after a.progress (Some line.End)) (sym (front_stands run_text read (codes "end") drawn (Some line.End) lines counted stood.0 stood.1 within ends fits));
    whole = inr ([], sym (append_assoc read (codes "end") (10 ∷ [])), refl);
  }

pub run_read_back : (run : PlainRun) → ReadBack run
run_read_back run is fits all few =
    let head = head_on run is fits in
    let whole = steps_on run run.steps [] (head_text run) 4 0 all (omega (arith, few)) (omega (arith, few, head.1)) head.0 in
    let made = drawn_at run (4 + length run.steps) (numbered 5 run.steps) in (
      run_rules.after made (Some line.End),
      subst (λ (t : List ℕ). HasText run_text t (Unit {0}) (run_rules.after made (Some line.End))) (sym (append_assoc (head_text run ++ steps_text run.steps) (codes "end") (10 ∷ [])))
          (ended (head_text run ++ steps_text run.steps) made (4 + length run.steps) (0 + length run.steps) whole.0 refl (omega (arith, few, head.1, whole.1))),
      refl,
    )
