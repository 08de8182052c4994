-- What the steps of a scan come to.
use Rattle.std.proofs.Common.{◌≡◌, ◌≢◌, ◌⊎◌, ◌<◌, ◌≤◌, ℕ, ◌+◌, ◌*◌, ◌/◌, ◌%◌, Bool, true, false, ltb, if◌then◌else◌, List, [], ◌∷◌, ◌++◌, length, refl, ap, sym, ◌∙◌, subst, arith, inl, inr, ⊎_elim, Some, None, Ok, Err, length-append}
use Rattle.std.proofs.Math.Nat.{div-add-mod}
use Rattle.std.proofs.lemmas.Bool.{cases_Bool, ltb-true}
use Rattle.std.proofs.lemmas.Nat.{div-mul-add, mod-mul-add}
use Rattle.pass_book.specs.declared.entries.Look.{Look}
use Rattle.pgas_base.specs.declared.shapes.Shape.{Shape}
use Rattle.epoch_laws.specs.declared.tokens.Token.{Token}
use Rattle.epoch_laws.specs.declared.steps.Kind.TheVariants.{EpochLook, ScanToken}
use Rattle.epoch_laws.specs.ReclaimSteps.{last_epoch, passes, token_after, scan_token}
use Rattle.epoch_laws.specs.Seats.{Seat, Phase, WonGlobal, Scanning, Stopped}
use Rattle.epoch_laws.specs.Steps.{move}
use Rattle.epoch_laws.specs.Words.{WordName, token}
use Rattle.epoch_laws.proofs.Updates.{number_here}
use Rattle.pass_table.proofs.Lists.{in_order_more}
use Rattle.epoch_table.specs.declared.parts.Plan.{Plan}
use Rattle.epoch_table.specs.declared.parts.Part.{Part}
use Rattle.epoch_table.specs.Clients.{ClientTerms}
use Rattle.epoch_table.specs.Facts.{Facts}
use Rattle.epoch_table.specs.Kinds.{MayMake, Makes}
use Rattle.epoch_table.specs.Knowledge.{Row, tells}
use Rattle.epoch_manager.specs.declared.faults.NotNow.TheVariants.{EpochsSpent, Held}
use Rattle.epoch_manager.specs.declared.reclaims.Stop.{Stop}
use Rattle.epoch_manager.specs.Reclaiming.{nth_token, ArePassed, IsScanning, scanned, epoch_read, looking, reclaimed_to, stopped, Scans, LooksAndScans}
use Rattle.epoch_manager.specs.Tokens.{token_read}
use Rattle.epoch_manager.proofs.Known.{ltb_so}
use Rattle.epoch_manager.proofs.ReclaimSteps.{looked_phase, epoch_told, epoch_row}
use Rattle.epoch_manager.proofs.TokenSteps.{Seated, Goes, made_of, then_goes}

next_token : (tokens k : ℕ) → 1 ≤ tokens → token_after tokens (nth_token tokens k) ≡ nth_token tokens (k + 1)
unfolding token_after
next_token tokens k some =
    let a = k / tokens in
    let b = k % tokens in
    let whole : tokens * a + b ≡ k = div-add-mod k tokens in
    ⊎_elim
    (λ on.
    let low : b + 1 < tokens = ltb-true (b + 1) tokens on in
    let is : a * tokens + (b + 1) ≡ k + 1 = grind arith in
    rw on (λ i. record { locale = (sym (div-mul-add a tokens (b + 1) low) ∙ ap (λ n. n / tokens) is) i; number = (sym (mod-mul-add a tokens (b + 1) low) ∙ ap (λ n. n % tokens) is) i }))
    (λ off.
    let last : b + 1 ≡ tokens = last_one b tokens off (below k tokens some) in
    let is : (a + 1) * tokens + 0 ≡ k + 1 = grind arith in
    rw off (λ i. record { locale = (sym (div-mul-add (a + 1) tokens 0 some) ∙ ap (λ n. n / tokens) is) i; number = (sym (mod-mul-add (a + 1) tokens 0 some) ∙ ap (λ n. n % tokens) is) i }))
    (cases_Bool (ltb (b + 1) tokens))
  where
    below : (k n : ℕ) → 1 ≤ n → k % n < n
    below k n some = omega arith

    last_one : (b n : ℕ) → ltb (b + 1) n ≡ false → b < n → b + 1 ≡ n
    last_one b n off low = grind arith

module _ (shape : Shape) (seats c : ℕ) (seat : Seat) (facts : Facts) where
  passed_told : (found : ℕ) → passes seat.reclaim.epoch found ≡ true
      → tells shape seats c seat facts ScanToken found ≡ record { seat = record seat { reclaim = record seat.reclaim { scan = token_after shape.tokens seat.reclaim.scan } }; items = [] }
  unfolding move scan_token
  passed_told found is =
      let of : Bool → Seat = λ b. if b then record seat { reclaim = record seat.reclaim { scan = token_after shape.tokens seat.reclaim.scan } } else record seat { phase = Stopped } in
      ap (λ (s : Seat). record { seat = s; items = [] }) (number_here (λ d. seat) c (of (passes seat.reclaim.epoch found)) ∙ ap of is)

  stopped_told : (found : ℕ) → passes seat.reclaim.epoch found ≡ false → tells shape seats c seat facts ScanToken found ≡ record { seat = record seat { phase = Stopped }; items = [] }
  unfolding move scan_token
  stopped_told found is =
      let of : Bool → Seat = λ b. if b then record seat { reclaim = record seat.reclaim { scan = token_after shape.tokens seat.reclaim.scan } } else record seat { phase = Stopped } in
      ap (λ (s : Seat). record { seat = s; items = [] }) (number_here (λ d. seat) c (of (passes seat.reclaim.epoch found)) ∙ ap of is)

  scan_row : c < seats → seat.phase ≡ Scanning → seat.reclaim.scan.locale < shape.locales → Row shape seats c seat facts ScanToken
  unfolding move scan_token
  scan_row below is low = ((below, ((is, low), tt)), tt)

module _ {C View' Call Reply State' : Type 0} (K : ClientTerms C View' Call Reply State') (opens : State' → Type 0) (step : State' → Call → Reply → State' → Type 0) (plan : Plan C) where
  -- so many tokens were passed
  pub record HasPassed (epoch k : ℕ) (m n : Seated K opens step plan) : Type 0 where
    pub words : List (Look WordName)
    pub passed : ArePassed plan.shape.tokens epoch k words
    pub part : n.0.part ≡ scanned plan.shape.tokens k m.0.part
    pub number : n.0.number ≡ m.0.number
    pub so : ((n ≡ m) × (words ≡ [])) ⊎ Goes K opens step plan m n words [] (scanned plan.shape.tokens k m.0.part)

  module _ (epoch : ℕ) (m : Seated K opens step plan) (scans : IsScanning plan.shape.tokens epoch m.0.part) where
    pub none_passed : HasPassed epoch 0 m m
    none_passed = record {
      words = [];
      passed = record { count = refl; each = λ k look none. absurd cc };
      part = ap (λ (t : Token). record m.0.part { seat = record m.0.part.seat { reclaim = record m.0.part.seat.reclaim { scan = t } } }) scans.first;
      number = refl;
      so = inl (refl, refl);
    }

    module _ (k : ℕ) (j : Seated K opens step plan) (has : HasPassed epoch k m j) where
      pub scans_here : j.0.part.seat.reclaim.scan ≡ nth_token plan.shape.tokens k
      scans_here = ap (λ (p : Part View'). p.seat.reclaim.scan) has.part

      pub may_scan : m.0.number < plan.callers → k / plan.shape.tokens < plan.shape.locales → MayMake K plan j.0.number ScanToken j.0.part
      may_scan below low =
          let number = has.number in record {
            row = scan_row plan.shape plan.callers j.0.number j.0.part.seat j.0.part.facts (omega arith) (ap (λ (p : Part View'). p.seat.phase) has.part ∙ scans.phase)
                (subst (λ (t : Token). t.locale < plan.shape.locales) (sym scans_here) low);
            made = tt;
            allowed = tt;
          }

      same_epoch : j.0.part.seat.reclaim.epoch ≡ epoch
      same_epoch = ap (λ (p : Part View'). p.seat.reclaim.epoch) has.part ∙ scans.read

      -- the tokens so far, and then one more
      after_passed : (n : Seated K opens step plan) (more : List (Look WordName)) (part : Part View') → Goes K opens step plan j n more [] part → Goes K opens step plan m n (has.words ++ more) [] part
      after_passed n more part next =
          ⊎_elim
          (λ t. subst (λ (l : List (Look WordName)). Goes K opens step plan m n (l ++ more) [] part) (sym t.1) (subst (λ (x : Seated K opens step plan). Goes K opens step plan x n more [] part) t.0 next))
          (λ t. then_goes K opens step plan m j n has.words more [] (scanned plan.shape.tokens k m.0.part) part t next)
          has.so

      module _ (found : ℕ) (n : Seated K opens step plan) (makes : Makes K opens step plan ScanToken j found n) where
        pub one_passed : 1 ≤ plan.shape.tokens → passes epoch found ≡ true → HasPassed epoch (k + 1) m n
        one_passed some is =
            let tokens = plan.shape.tokens in
            let look : Look WordName = token_read (nth_token tokens k) found in
            let made = made_of K opens step plan ScanToken j n found _ (passed_told plan.shape plan.callers j.0.number j.0.part.seat j.0.part.facts found (subst (λ e. passes e found ≡ true) (sym same_epoch) is)) makes in
            let here : Goes K opens step plan j n (look ∷ []) [] (record m.0.part { seat = record m.0.part.seat { reclaim = record m.0.part.seat.reclaim { scan = token_after tokens (nth_token tokens k) } } }) =
            subst
            (λ (p : Part View').
            Goes K opens step plan j n (token_read p.seat.reclaim.scan found ∷ []) []
            (record p { seat = record p.seat { reclaim = record p.seat.reclaim { scan = token_after tokens p.seat.reclaim.scan } } }))
            has.part made in
            let next : Goes K opens step plan j n (look ∷ []) [] (scanned tokens (k + 1) m.0.part) =
            subst (λ (t : Token). Goes K opens step plan j n (look ∷ []) [] (record m.0.part { seat = record m.0.part.seat { reclaim = record m.0.part.seat.reclaim { scan = t } } })) (next_token tokens k some) here in
            record {
              words = has.words ++ look ∷ [];
              passed = record {
                count = length-append has.words (look ∷ []) ∙ ap (λ i. i + 1) has.passed.count;
                each = in_order_more (λ i (look : Look WordName). (look.name ≡ token (nth_token tokens i)) × (passes epoch look.word ≡ true)) has.words _ look k refl has.passed.count has.passed.each (refl, is);
              };
              part = next.1;
              number = next.0.same.number ∙ has.number;
              so = inr (after_passed n (look ∷ []) (scanned tokens (k + 1) m.0.part) next);
            }

        pub stops_it : (stop : Stop) → stop.word ≡ found → stop.token ≡ nth_token plan.shape.tokens k → k < plan.shape.locales * plan.shape.tokens → passes epoch found ≡ false → Scans K opens step plan epoch m n (Some stop)
        stops_it stop word is low stops =
            let tokens = plan.shape.tokens in
            let look : Look WordName = token_read (nth_token tokens k) found in
            let made = made_of K opens step plan ScanToken j n found _ (stopped_told plan.shape plan.callers j.0.number j.0.part.seat j.0.part.facts found (subst (λ e. passes e found ≡ false) (sym same_epoch) stops)) makes in
            let next : Goes K opens step plan j n (look ∷ []) [] (stopped (scanned tokens k m.0.part)) =
            subst (λ (p : Part View'). Goes K opens step plan j n (token_read p.seat.reclaim.scan found ∷ []) [] (stopped p)) has.part made in (
              k,
              low,
              is,
              (
                has.words ++ look ∷ [],
                record {
                  before = has.words;
                  passed = has.passed;
                  read = ap (λ w. has.words ++ token_read (nth_token tokens k) w ∷ []) (sym word);
                  stops = subst (λ w. passes epoch w ≡ false) (sym word) stops;
                },
                after_passed n (look ∷ []) (stopped (scanned tokens k m.0.part)) next,
              ),
            )

    pub all_passed : (n : Seated K opens step plan) (k : ℕ) → HasPassed epoch k m n → k ≡ plan.shape.locales * plan.shape.tokens → 1 ≤ plan.shape.locales * plan.shape.tokens → Scans K opens step plan epoch m n None
    all_passed n k has all some =
        let many = has.passed.count in (
          has.words,
          subst (λ i. ArePassed plan.shape.tokens epoch i has.words) all has.passed,
          subst (λ i. Goes K opens step plan m n has.words [] (scanned plan.shape.tokens i m.0.part)) all
              (⊎_elim (λ t. let none : length has.words ≡ 0 = ap length t.1 in absurd (omega arith)) (λ t. t) has.so),
        )

  -- ---- with a look at the epoch before it

  pub may_look : (m : Seated K opens step plan) → m.0.number < plan.callers → m.0.part.seat.phase ≡ WonGlobal → MayMake K plan m.0.number EpochLook m.0.part
  may_look m below is = record { row = epoch_row plan.shape plan.callers m.0.number m.0.part.seat m.0.part.facts below is; made = tt; allowed = tt }

  module _ (m j : Seated K opens step plan) (epoch : ℕ) (looks : Makes K opens step plan EpochLook m epoch j) where
    pub low_epoch : epoch ≢ last_epoch → epoch < last_epoch
    low_epoch ne = less epoch looks.0 ne
      where
        less : (e : ℕ) → e ≤ 4611686018427387904 → e ≢ 4611686018427387904 → e < 4611686018427387904
        less e low ne = omega arith

    looked_so : (phase : Phase) → looked_phase epoch ≡ phase
        → Goes K opens step plan m j (epoch_read epoch ∷ []) [] (record m.0.part { seat = record m.0.part.seat { phase = phase; reclaim = record m.0.part.seat.reclaim { epoch = epoch; scan = record { locale = 0; number = 0 } } } })
    looked_so phase is =
        let made = made_of K opens step plan EpochLook m j epoch _ (epoch_told plan.shape plan.callers m.0.number m.0.part.seat m.0.part.facts epoch) looks in
        subst
        (λ (p : Phase).
        Goes K opens step plan m j (epoch_read epoch ∷ []) [] (record m.0.part { seat = record m.0.part.seat { phase = p; reclaim = record m.0.part.seat.reclaim { epoch = epoch; scan = record { locale = 0; number = 0 } } } }))
        is made

    looking_so : epoch ≢ last_epoch → Goes K opens step plan m j (epoch_read epoch ∷ []) [] (looking epoch m.0.part)
    looking_so ne = looked_so Scanning (scans_so epoch (low_epoch ne))
      where
        scans_so : (e : ℕ) → e < last_epoch → looked_phase e ≡ Scanning
        scans_so e low = rw (ltb_so e last_epoch low) refl

    pub spent_so : epoch ≡ last_epoch → LooksAndScans K opens step plan m j (Err EpochsSpent)
    spent_so is =
        let zero : Token = record { locale = 0; number = 0 } in
        (epoch_read last_epoch ∷ [], refl, (last_epoch, zero, subst (λ e. Goes K opens step plan m j (epoch_read e ∷ []) [] (reclaimed_to Stopped e zero m.0.part)) is (looked_so Stopped (stops_so epoch is))))
      where
        stops_so : (e : ℕ) → e ≡ last_epoch → looked_phase e ≡ Stopped
        stops_so e is = rw is refl

    module _ (ne : epoch ≢ last_epoch) where
      pub scanning_so : IsScanning plan.shape.tokens epoch j.0.part
      scanning_so =
          let is = (looking_so ne).1 in
          record {
            phase = ap (λ (p : Part View'). p.seat.phase) is;
            read = ap (λ (p : Part View'). p.seat.reclaim.epoch) is;
            first = ap (λ (p : Part View'). p.seat.reclaim.scan) is ∙ zeros plan.shape.tokens;
          }
        where
          zeros : (t : ℕ) → record { locale = 0; number = 0 } ≡ nth_token t 0
          zeros t = let a : 0 ≡ 0 / t = omega arith in let b : 0 ≡ 0 % t = omega arith in λ i. record { locale = a i; number = b i }

      pub below_so : m.0.number < plan.callers → j.0.number < plan.callers
      below_so below = let number = (looking_so ne).0.same.number in omega arith

      module _ (n : Seated K opens step plan) where
        pub passed_so : Scans K opens step plan epoch j n None → LooksAndScans K opens step plan m n (Ok epoch)
        passed_so scans =
            let all = plan.shape.locales * plan.shape.tokens in
            let is = (looking_so ne).1 in
            let goes : Goes K opens step plan j n scans.0 [] (scanned plan.shape.tokens all (looking epoch m.0.part)) = subst (λ (p : Part View'). Goes K opens step plan j n scans.0 [] (scanned plan.shape.tokens all p)) is scans.2 in
            (low_epoch ne, (scans.0, scans.1, then_goes K opens step plan m j n (epoch_read epoch ∷ []) scans.0 [] (looking epoch m.0.part) (scanned plan.shape.tokens all (looking epoch m.0.part)) (looking_so ne) goes))

        pub held_so : (stop : Stop) → Scans K opens step plan epoch j n (Some stop) → LooksAndScans K opens step plan m n (Err (Held stop.token.locale stop.token.number stop.word))
        held_so stop scans =
            let k = scans.0 in
            let words = scans.3.0 in
            let is = (looking_so ne).1 in
            let last = stopped (scanned plan.shape.tokens k (looking epoch m.0.part)) in
            let goes : Goes K opens step plan j n words [] last = subst (λ (p : Part View'). Goes K opens step plan j n words [] (stopped (scanned plan.shape.tokens k p))) is scans.3.2 in (
              epoch_read epoch ∷ words,
              (epoch, low_epoch ne, (k, scans.1, scans.2, (words, refl, scans.3.1))),
              (epoch, nth_token plan.shape.tokens k, then_goes K opens step plan m j n (epoch_read epoch ∷ []) words [] (looking epoch m.0.part) last (looking_so ne) goes),
            )
