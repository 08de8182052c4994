-- What the calls of a single caller do is an answer of its script.
use Rattle.std.proofs.Common.{◌≡◌, inl, inr, ℕ, zero, suc, ◌<◌, List, [], ◌∷◌, ◌++◌, length, slice_get, slice_index_or, All, Some, arith, refl, ap, sym, ◌∙◌, subst}
use Rattle.std.specs.List.{flat_map}
use Rattle.std.proofs.lemmas.List.Elements.{All-append}
use Rattle.pass_book.specs.declared.entries.Entry.{Entry}
use Rattle.pass_book.specs.Histories.{Leads, IsOfCallers}
use Rattle.script_text.specs.declared.scripts.Call.{Call}
use Rattle.script_text.specs.declared.replies.Reply.{Reply}
use Rattle.script_text.specs.Scripts.{PlainScript}
use Rattle.script_engine.specs.Answers.{Stands, AnswersRound, AnswersRounds, Answers}
use Rattle.script_engine.specs.Says.{SaysPlainly}
use Rattle.script_engine.specs.Replied.{Does, Replied, first_calls}

-- the calls of two lists, made one after another
record Parts {State : Type 0} (does : State → Call → Reply → State → Type 0) (from : State) (calls more : List Call) (told : List Reply) (to : State) : Type 0 where
  first : List Reply
  rest : List Reply
  mid : State
  made : Replied does from calls first mid
  then : Replied does mid more rest to
  whole : told ≡ first ++ rest

parted : {State : Type 0} (does : State → Call → Reply → State → Type 0) (from : State) (calls more : List Call) (told : List Reply) (to : State) → Replied does from (calls ++ more) told to → Parts does from calls more told to
parted does from [] more told to made = record { first = []; rest = told; mid = from; made = refl; then = made; whole = refl }
parted does from (call ∷ calls) more [] to made = absurd made
parted does from (call ∷ calls) more (reply ∷ told) to made =
    let p = parted does made.0 calls more told to made.2 in
    record { first = reply ∷ p.first; rest = p.rest; mid = p.mid; made = (made.0, made.1, p.made); then = p.then; whole = ap (λ (l : List Reply). reply ∷ l) p.whole }

first_alone : {Asked Told : Type 0} (e : Entry Asked Told) (h : List (Entry Asked Told)) → e.caller ≡ 0 → IsOfCallers 1 h → IsOfCallers 1 (e ∷ h)
first_alone e h is all zero d within = omega (arith, is)
first_alone e h is all (suc k) d within = all k d (omega arith)

module _ {Asked Told State : Type 0} (opens : State → Type 0) (step : State → Asked → Told → State → Type 0) (Shows : Call → Reply → Asked → Told → Type 0) (HasNoEntry : Call → Reply → Type 0) where
  abbrev Says : ℕ → Call → Reply → List (Entry Asked Told) → List (Entry Asked Told) → Type 0
  Says = SaysPlainly Shows HasNoEntry

  -- the entries of calls that were made, whatever stands before them
  record Entered (from : State) (calls : List Call) (told : List Reply) (to : State) : Type 0 where
    history : List (Entry Asked Told)
    stands : (before : List (Entry Asked Told)) → Stands Says 0 before calls told history
    leads : Leads opens step from history to
    alone : IsOfCallers 1 history

  entered_with : (from next to : State) (call : Call) (calls : List Call) (reply : Reply) (told : List Reply) → Does step Shows HasNoEntry from call reply next → Entered next calls told to → Entered from (call ∷ calls) (reply ∷ told) to
  entered_with from next to call calls reply told (inl none) rest = record {
    history = rest.history;
    stands = λ before. ([], rest.history, refl, inl (none.0, refl), rest.stands (before ++ []));
    leads = subst (λ (s : State). Leads opens step s rest.history to) none.1 rest.leads;
    alone = rest.alone;
  }
  entered_with from next to call calls reply told (inr made) rest =
      let entry : Entry Asked Told = record { caller = 0; call = made.0; reply = made.1 } in record {
        history = entry ∷ rest.history;
        stands = λ before. (entry ∷ [], rest.history, refl, inr (made.0, made.1, made.2, refl), rest.stands (before ++ entry ∷ []));
        leads = (next, made.3, rest.leads);
        alone = first_alone entry rest.history refl rest.alone;
      }

  enter : (from : State) (calls : List Call) (told : List Reply) (to : State) → Replied (Does step Shows HasNoEntry) from calls told to → Entered from calls told to
  enter from [] [] to made = record { history = []; stands = λ before. refl; leads = sym made; alone = λ k d within. absurd (omega arith) }
  enter from [] (reply ∷ told) to made = absurd made
  enter from (call ∷ calls) [] to made = absurd made
  enter from (call ∷ calls) (reply ∷ told) to made = entered_with from made.0 to call calls reply told made.1 (enter made.0 calls told to made.2)

  -- the history of the rounds
  record EnteredRounds (from : State) (rounds : List (List (List Call))) (told : List Reply) (to : State) : Type 0 where
    parts : List (List (List Reply))
    history : List (Entry Asked Told)
    answers : (before : List (Entry Asked Told)) → AnswersRounds Says before rounds parts history
    leads : Leads opens step from history to
    alone : IsOfCallers 1 history
    whole : told ≡ flat_map (λ round. slice_index_or round 0 []) parts

  -- one round of a single caller
  round_alone : (from : State) (calls : List Call) (told : List Reply) (to : State) → (e : Entered from calls told to) (before : List (Entry Asked Told)) → AnswersRound Says before (calls ∷ []) (told ∷ []) e.history
  round_alone from calls told to e before = record { each = refl; stands = at }
    where
      at : (caller : ℕ) (its : List Call) (replies : List Reply) → slice_get (calls ∷ []) caller ≡ Some its → slice_get (told ∷ []) caller ≡ Some replies → Stands Says caller before its replies e.history
      at zero its replies same got =
          let P : List Call → List Reply → Type 0 = λ c r. Stands Says 0 before c r e.history in
          let a : calls ≡ its = cc in
          let b : told ≡ replies = cc in
          subst (λ (r : List Reply). P its r) b (subst (λ (c : List Call). P c told) a (e.stands before))
      at (suc n) its replies same got = absurd (cc same)

  leads_on : (from mid to : State) (h k : List (Entry Asked Told)) → Leads opens step from h mid → Leads opens step mid k to → Leads opens step from (h ++ k) to
  leads_on from mid to [] k at goes = subst (λ (s : State). Leads opens step s k to) (sym at) goes
  leads_on from mid to (e ∷ h) k at goes = (at.0, at.1, leads_on at.0 mid to h k at.2 goes)

  -- Each round has one caller.
  enter_rounds : (from : State) (rounds : List (List (List Call))) (told : List Reply) (to : State) → All (λ round. length round ≡ 1) rounds → Replied (Does step Shows HasNoEntry) from (first_calls rounds) told to → EnteredRounds from rounds told to
  enter_rounds from [] [] to one made = record { parts = []; history = []; answers = λ before. refl; leads = sym made; alone = λ k d within. absurd (omega arith); whole = refl }
  enter_rounds from [] (reply ∷ told) to one made = absurd made
  enter_rounds from ([] ∷ rounds) told to one made = absurd (omega (arith, one 0 [] (omega arith)))
  enter_rounds from ((calls ∷ other ∷ others) ∷ rounds) told to one made = absurd (omega (arith, one 0 [] (omega arith)))
  enter_rounds from ((calls ∷ []) ∷ rounds) told to one made =
      let p = parted (Does step Shows HasNoEntry) from calls (first_calls rounds) told to made in
      let now = enter from calls p.first p.mid p.made in
      let later = enter_rounds p.mid rounds p.rest to (λ k d within. one (suc k) d (omega arith)) p.then in record {
        parts = (p.first ∷ []) ∷ later.parts;
        history = now.history ++ later.history;
        answers = λ before. (now.history, later.history, round_alone from calls p.first p.mid now before, later.answers (before ++ now.history), refl);
        leads = leads_on from p.mid to now.history later.history now.leads later.leads;
        alone = All-append (λ (e : Entry Asked Told). e.caller < 1) now.history later.history now.alone later.alone;
        whole = p.whole ∙ ap (λ (l : List Reply). p.first ++ l) later.whole;
      }

  -- The replies of a single caller, and what it left, are an answer of its script.
  pub answers_alone : (IsLeft : State → Type 0) (start to : State) (script : PlainScript) (told : List Reply) (replies : List (List Reply)) → opens start → script.callers ≡ 1 → All (λ round. length round ≡ 1) script.rounds
      → Replied (Does step Shows HasNoEntry) start (first_calls script.rounds) told to → replies ≡ told ∷ [] → IsLeft to → Answers opens step Says start script replies IsLeft
  answers_alone IsLeft start to script told replies opened callers one made is left =
      let all = enter_rounds start script.rounds told to one made in record {
        rounds = all.parts;
        joined = record { each = ap length is ∙ sym callers; joined = at all.parts all.whole };
        history = all.history;
        answers = all.answers [];
        callers = subst (λ (n : ℕ). IsOfCallers n all.history) (sym callers) all.alone;
        state = to;
        leaves = (opened, all.leads);
        left = left;
      }
    where
      at : (parts : List (List (List Reply))) → told ≡ flat_map (λ round. slice_index_or round 0 []) parts → (caller : ℕ) → caller < script.callers → slice_get replies caller ≡ Some (flat_map (λ round. slice_index_or round caller []) parts)
      at parts whole zero within = ap (λ (l : List (List Reply)). slice_get l 0) is ∙ ap Some whole
      at parts whole (suc n) within = absurd (omega (arith, callers))
