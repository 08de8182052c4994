-- What a reclaim does between its advance and its leaves.
use Rattle.std.specs.Prelude.{◌≡◌, ◌+◌, ◌*◌, ◌≤◌, ◌<◌, ◌++◌, ℕ, true, false, List, [], ◌∷◌, length, map, fold, Option, None, Result, Ok, Err}
use Rattle.pass_book.specs.declared.entries.Look.{Look}
use Rattle.pgas_base.specs.declared.shapes.Shape.{Shape}
use Rattle.pgas_base.specs.Pointers.{Pointer}
use Rattle.epoch_laws.specs.declared.events.EpochEvent.TheVariants.{Freed}
use Rattle.epoch_laws.specs.declared.events.Item.{Item}
use Rattle.epoch_laws.specs.declared.events.Item.TheVariants.{Event, Advance as Advances, Claim, Leave}
use Rattle.epoch_laws.specs.ChainWords.{IsChainWord}
use Rattle.epoch_laws.specs.Locations.{IsDistinct}
use Rattle.epoch_laws.specs.Places.{Place, place_of, is_among}
use Rattle.epoch_laws.specs.ReclaimSteps.{last_epoch}
use Rattle.epoch_laws.specs.Seats.{Advanced, Registered}
use Rattle.epoch_laws.specs.States.{IsPlace}
use Rattle.epoch_laws.specs.Words.{WordName}
use Rattle.pass_table.specs.Steps.{GoesAmongTo}
use Rattle.epoch_table.specs.declared.parts.Plan.{Plan}
use Rattle.epoch_table.specs.declared.parts.Part.{Part}
use Rattle.epoch_table.specs.Clients.{ClientTerms, Frees}
use Rattle.epoch_table.specs.Events.{PastOpens, PastSteps}
use Rattle.epoch_table.specs.Facts.{count_of}
use Rattle.epoch_table.specs.Kinds.{entries_of_items}
use Rattle.epoch_table.specs.Released.{released_by}
use Rattle.epoch_table.specs.Rule.{manager_terms}
use Rattle.epoch_manager.specs.declared.faults.NotNow.{NotNow}
use Rattle.epoch_manager.specs.declared.homes.HomeChain.{HomeChain}
use Rattle.epoch_manager.specs.declared.reclaims.Advanced.{Advanced as Reclaimed}
use Rattle.epoch_manager.specs.Gathering.{Gathers}
use Rattle.epoch_manager.specs.Reclaiming.{ArePassed, local_read, global_read, epoch_read, EntersReclaim}
use Rattle.epoch_manager.specs.TakeSeats.{SeatOf, Has}

-- ---- the lists

-- it has advanced, whatever it has walked over is released, and those that became free and are not home yet are these chains
pub record IsWalking {View' : Type 0} (shape : Shape) (chains : ℕ → Option HomeChain) (part : Part View') : Type 0 where
  pub phase : part.seat.phase ≡ Advanced
  pub walked : part.seat.reclaim.walked ≡ []
  pub gathers : Gathers shape part.seat.hand part.facts chains
  pub tail : part.seat.homing.tail ≡ None

-- so many lists were collected, and the last one's chain goes on so
pub record IsReleasing {View' : Type 0} (shape : Shape) (epoch lists word : ℕ) (chains : ℕ → Option HomeChain) (part : Part View') : Type 0 where
  pub walking : IsWalking shape chains part
  pub read : part.seat.reclaim.epoch ≡ epoch
  pub spread : part.seat.reclaim.spread ≡ shape.locales
  pub collected : part.seat.reclaim.collected ≡ lists
  pub chain : part.seat.reclaim.chain ≡ word

-- what the pass owns, holds and knows of that is as it was
pub record IsKeptBy {View' : Type 0} (old new : Part View') : Type 0 where
  pub token : new.seat.token ≡ old.seat.token
  pub owned : new.seat.owned ≡ old.seat.owned
  pub held : new.seat.held ≡ old.seat.held
  pub chain : new.seat.homing.chain ≡ old.seat.homing.chain
  pub won : new.won ≡ old.won
  pub counts : (p : Place) → Has old p → count_of new.facts p ≡ count_of old.facts p

-- these objects were freed, in this order
abbrev pub freed_items : ℕ → List Pointer → List Item
freed_items c pointers = map (λ q. Event c (Freed q) 0) pointers

-- what a reclaim lists that advances to this epoch and frees these objects
abbrev pub reclaim_items : ℕ → ℕ → List Pointer → List Item
reclaim_items c epoch pointers = Claim c false ∷ Claim c true ∷ Advances c epoch ∷ (freed_items c pointers ++ Leave c true ∷ Leave c false ∷ [])

-- it is registered, and in no reclaim
abbrev pub resting : {View' : Type 0} → Part View' → Part View'
resting part = record part { seat = record part.seat { phase = Registered } }

module _ {C View' Call Reply State' : Type 0} (K : ClientTerms C View' Call Reply State') where
  -- what a pass then knows of the client
  abbrev pub frees_after : View' → List Pointer → View'
  frees_after view pointers = fold (λ v q. K.after v (Frees q) 0) view pointers

module _ {C View' Call Reply State' : Type 0} (K : ClientTerms C View' Call Reply State') (opens : State' → Type 0) (step : State' → Call → Reply → State' → Type 0) (plan : Plan C) where
  -- the objects that it has freed since its last advance, the last one first
  abbrev pub released_of : SeatOf K opens step plan → List Place
  released_of m = released_by m.0.number m.0.mine

  -- steps that listed these items and freed these objects
  pub record Lists (m n : SeatOf K opens step plan) (items : List Item) (pointers : List Pointer) : Type 0 where
    pub looks : List (Look WordName)
    pub goes : GoesAmongTo (manager_terms K) (PastOpens opens) (PastSteps step) plan m n looks (entries_of_items m.0.number items) n.0.part m.1
    pub kept : IsKeptBy m.0.part n.0.part
    pub client : n.0.part.client ≡ frees_after K m.0.part.client pointers

  -- an object of the chain was walked over and released, and this word leads on
  pub record FreesOne (q : Pointer) (word : ℕ) (m n : SeatOf K opens step plan) : Type 0 where
    pub lists : Lists m n (freed_items m.0.number (q ∷ [])) (q ∷ [])
    pub phase : n.0.part.seat.phase ≡ Advanced
    pub reclaim : n.0.part.seat.reclaim ≡ record m.0.part.seat.reclaim { chain = word; walked = [] }
    pub leads : IsChainWord plan.shape word
    pub released : released_of n ≡ place_of q ∷ released_of m
    pub distinct : IsDistinct (released_of n)

  -- and where it became free it has joined those of its home
  pub record ReleasesOne (q : Pointer) (word : ℕ) (chains : ℕ → Option HomeChain) (m n : SeatOf K opens step plan) : Type 0 where
    pub frees : FreesOne q word m n
    pub walking : IsWalking plan.shape chains n.0.part

  -- so many objects were freed since the last advance, each one of the shape, and no more than it has
  pub record HasFreed (m : SeatOf K opens step plan) (freed : ℕ) : Type 0 where
    pub many : length (released_of m) ≡ freed
    pub inside : (p : Place) → is_among p (released_of m) ≡ true → IsPlace plan.shape p
    pub low : freed ≤ plan.shape.locales * plan.shape.objects

  -- The list of a locale was collected and objects of it were freed, with those before so many, and this word leads on
  pub record ReleasesList (epoch list freed word total : ℕ) (chains : ℕ → Option HomeChain) (m n : SeatOf K opens step plan) : Type 0 where
    pub pointers : List Pointer
    pub lists : Lists m n (freed_items m.0.number pointers) pointers
    pub releasing : IsReleasing plan.shape epoch (list + 1) word chains n.0.part
    pub leads : IsChainWord plan.shape word
    pub count : total ≡ freed + length pointers
    pub has : HasFreed n total

  -- The epoch is advanced and spread, and of so many locales what may be released was released: so many objects
  pub record ReleasesAll (epoch lists freed : ℕ) (chains : ℕ → Option HomeChain) (m n : SeatOf K opens step plan) : Type 0 where
    pub pointers : List Pointer
    pub went : Lists m n (Advances m.0.number (epoch + 1) ∷ freed_items m.0.number pointers) pointers
    pub releasing : IsReleasing plan.shape epoch lists 0 chains n.0.part
    pub count : freed ≡ length pointers
    pub has : HasFreed n freed

  -- both elections are left
  abbrev pub LeavesBoth : SeatOf K opens step plan → SeatOf K opens step plan → Type 0
  LeavesBoth m n = GoesAmongTo (manager_terms K) (PastOpens opens) (PastSteps step) plan m n [] (entries_of_items m.0.number (Leave m.0.number true ∷ Leave m.0.number false ∷ [])) (resting m.0.part) m.1

  -- A whole reclaim advanced to this epoch and freed so many objects: no token stopped it, with the epoch before
  pub record ReclaimsSeat (to freed : ℕ) (m n : SeatOf K opens step plan) : Type 0 where
    pub epoch : ℕ
    pub one_more : to ≡ epoch + 1
    pub not_last : epoch < last_epoch
    pub passed : List (Look WordName)
    pub are_passed : ArePassed plan.shape.tokens epoch (plan.shape.locales * plan.shape.tokens) passed
    pub more : List (Look WordName)
    pub pointers : List Pointer
    pub count : freed ≡ length pointers
    pub goes : GoesAmongTo (manager_terms K) (PastOpens opens) (PastSteps step) plan m n
        (local_read m.0.part.seat.token.locale 0 ∷ global_read 0 ∷ epoch_read epoch ∷ (passed ++ more))
        (entries_of_items m.0.number (reclaim_items m.0.number to pointers)) n.0.part m.1
    pub kept : IsKeptBy m.0.part n.0.part
    pub client : n.0.part.client ≡ frees_after K m.0.part.client pointers
    pub phase : n.0.part.seat.phase ≡ Registered
    pub walked : n.0.part.seat.reclaim.walked ≡ []
    pub hand : n.0.part.seat.hand ≡ []
    pub tail : n.0.part.seat.homing.tail ≡ None

  -- a reclaim, or what refuses it
  abbrev pub Reclaims : SeatOf K opens step plan → SeatOf K opens step plan → Result Reclaimed NotNow → Type 0
  Reclaims m n (Ok reclaimed) = ReclaimsSeat reclaimed.epoch reclaimed.freed m n
  Reclaims m n (Err fault) = EntersReclaim K opens step plan m n (Err fault)
