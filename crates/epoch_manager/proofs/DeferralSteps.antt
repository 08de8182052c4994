-- What the steps of a deferral come to.
use Rattle.std.proofs.Common.{◌≡◌, ◌<◌, ℕ, ◌%◌, [], ◌∷◌, ap, subst, arith, Some}
use Rattle.pass_book.specs.declared.entries.Look.{Look}
use Rattle.pgas_base.specs.declared.shapes.Shape.{Shape}
use Rattle.pgas_base.specs.Pointers.{Pointer}
use Rattle.epoch_laws.specs.declared.events.EpochEvent.TheVariants.{Deferred}
use Rattle.epoch_laws.specs.declared.events.Item.TheVariants.{Event}
use Rattle.epoch_laws.specs.declared.steps.Kind.TheVariants.{DeferLook, DeferSwap, DeferLink}
use Rattle.epoch_laws.specs.DeferralSteps.{defer_look, defer_swap, defer_link}
use Rattle.epoch_laws.specs.Places.{place_of}
use Rattle.epoch_laws.specs.Seats.{Seat, Pinned, DeferLooked, DeferSwapped}
use Rattle.epoch_laws.specs.Steps.{move}
use Rattle.epoch_laws.specs.Words.{WordName, local_epoch, list}
use Rattle.epoch_laws.proofs.Updates.{number_here}
use Rattle.epoch_table.specs.declared.parts.Plan.{Plan}
use Rattle.epoch_table.specs.declared.parts.Part.{Part}
use Rattle.epoch_table.specs.Clients.{ClientTerms, Defers}
use Rattle.epoch_table.specs.Deeds.{deed}
use Rattle.epoch_table.specs.Facts.{Facts}
use Rattle.epoch_table.specs.Kinds.{looks_of, entries_of_items, MayMake, Makes}
use Rattle.epoch_table.specs.Knowledge.{Row, tells}
use Rattle.epoch_manager.specs.Deferring.{deferral_words, part_deferred, DefersSeat}
use Rattle.epoch_manager.proofs.TokenSteps.{Seated, Goes, made_of, as_among, then_among}

module _ (shape : Shape) (seats c : ℕ) (seat : Seat) (facts : Facts) where
  pub look_told : (q : Pointer) (found : ℕ)
      → tells shape seats c seat facts (DeferLook q) found ≡ record { seat = record seat { phase = DeferLooked; deferral = record { pointer = q; tag = found; old = 0 } }; items = Event c (Deferred seat.token q) found ∷ [] }
  unfolding move defer_look
  look_told q found =
      ap (λ (s : Seat). record { seat = s; items = Event c (Deferred seat.token q) found ∷ [] }) (number_here (λ d. seat) c (record seat { phase = DeferLooked; deferral = record { pointer = q; tag = found; old = 0 } }))

  pub swap_told : (found : ℕ) → tells shape seats c seat facts DeferSwap found ≡ record { seat = record seat { phase = DeferSwapped; deferral = record seat.deferral { old = found } }; items = [] }
  unfolding move defer_swap
  swap_told found = ap (λ (s : Seat). record { seat = s; items = [] }) (number_here (λ d. seat) c (record seat { phase = DeferSwapped; deferral = record seat.deferral { old = found } }))

  pub link_told : (found : ℕ) → tells shape seats c seat facts DeferLink found ≡ record { seat = record seat { phase = Pinned }; items = [] }
  unfolding move defer_link
  link_told found = ap (λ (s : Seat). record { seat = s; items = [] }) (number_here (λ d. seat) c (record seat { phase = Pinned }))

  module _ (below : c < seats) where
    swap_row : seat.phase ≡ DeferLooked → Row shape seats c seat facts DeferSwap
    unfolding move defer_swap
    swap_row is = ((below, (is, tt)), tt)

    link_row : seat.phase ≡ DeferSwapped → Row shape seats c seat facts DeferLink
    unfolding move defer_link
    link_row is = ((below, (is, tt)), tt)

module _ {C View' Call Reply State' : Type 0} (K : ClientTerms C View' Call Reply State') (opens : State' → Type 0) (step : State' → Call → Reply → State' → Type 0) (plan : Plan C) where
  pub may_look : (m : Seated K opens step plan) (q : Pointer) → m.0.number < plan.callers → m.0.part.seat.phase ≡ Pinned → K.may m.0.part.client (Defers q)
      → MayMake K plan m.0.number (DeferLook q) m.0.part
  may_look m q below is may = record { row = (below, is); made = tt; allowed = may }

  module _ (q : Pointer) (m k : Seated K opens step plan) (tag : ℕ) (looks : Makes K opens step plan (DeferLook q) m tag k) where
    abbrev pub PartLooked : Part View'
    PartLooked = record m.0.part { seat = record m.0.part.seat { phase = DeferLooked; deferral = record { pointer = q; tag = tag; old = 0 } }; client = K.after m.0.part.client (Defers q) 0 }

    pub looked_so : Goes K opens step plan m k (record { name = local_epoch m.0.part.seat.token.locale; word = tag } ∷ []) (entries_of_items m.0.number (Event m.0.number (Deferred m.0.part.seat.token q) tag ∷ [])) PartLooked
    looked_so = made_of K opens step plan (DeferLook q) m k tag _ (look_told plan.shape plan.callers m.0.number m.0.part.seat m.0.part.facts q tag) looks

    pub may_swap : m.0.number < plan.callers → MayMake K plan k.0.number DeferSwap k.0.part
    may_swap below =
        let number = looked_so.0.same.number in
        record { row = swap_row plan.shape plan.callers k.0.number k.0.part.seat k.0.part.facts (omega arith) (ap (λ (p : Part View'). p.seat.phase) looked_so.1); made = tt; allowed = tt }

    module _ (j : Seated K opens step plan) (old : ℕ) (swaps : Makes K opens step plan DeferSwap k old j) where
      abbrev pub PartSwapped : Part View'
      PartSwapped = record m.0.part { seat = record m.0.part.seat { phase = DeferSwapped; deferral = record { pointer = q; tag = tag; old = old } }; client = K.after m.0.part.client (Defers q) 0 }

      pub swapped_so : Goes K opens step plan k j (record { name = list m.0.part.seat.token.locale (tag % 4); word = old } ∷ []) [] PartSwapped
      swapped_so =
          let made = made_of K opens step plan DeferSwap k j old _ (swap_told plan.shape plan.callers k.0.number k.0.part.seat k.0.part.facts old) swaps in
          subst (λ (p : Part View'). Goes K opens step plan k j (looks_of (deed p.seat DeferSwap) old) [] (record p { seat = record p.seat { phase = DeferSwapped; deferral = record p.seat.deferral { old = old } } })) looked_so.1 made

      pub may_link : m.0.number < plan.callers → MayMake K plan j.0.number DeferLink j.0.part
      may_link below =
          let first = looked_so.0.same.number in
          let second = swapped_so.0.same.number in
          record { row = link_row plan.shape plan.callers j.0.number j.0.part.seat j.0.part.facts (omega arith) (ap (λ (p : Part View'). p.seat.phase) swapped_so.1); made = tt; allowed = tt }

      module _ (n : Seated K opens step plan) (links : Makes K opens step plan DeferLink j old n) where
        linked_so : Goes K opens step plan j n [] [] (part_deferred K q tag old m.0.part)
        linked_so =
            let made = made_of K opens step plan DeferLink j n old _ (link_told plan.shape plan.callers j.0.number j.0.part.seat j.0.part.facts old) links in
            subst
            (λ (p : Part View').
            Goes K opens step plan j n [] []
            (record p {
              seat = record p.seat { phase = Pinned };
              facts = record p.facts { nexts = record { place = place_of p.seat.deferral.pointer; number = Some p.seat.deferral.old } ∷ p.facts.nexts };
            }))
            swapped_so.1 made

        pub defers_so : DefersSeat K opens step plan q m tag n
        defers_so =
            let l = m.0.part.seat.token.locale in
            let entries = entries_of_items m.0.number (Event m.0.number (Deferred m.0.part.seat.token q) tag ∷ []) in
            let look : Look WordName = record { name = local_epoch l; word = tag } in
            let swap : Look WordName = record { name = list l (tag % 4); word = old } in
            let first = as_among K opens step plan m k (look ∷ []) entries PartLooked looked_so in
            let second = as_among K opens step plan k j (swap ∷ []) [] PartSwapped swapped_so in
            let third = as_among K opens step plan j n [] [] (part_deferred K q tag old m.0.part) linked_so in
            let two = then_among K opens step plan m k j (look ∷ []) (swap ∷ []) entries [] PartLooked PartSwapped first second in (
              looks.0.0,
              (old, then_among K opens step plan m j n (deferral_words l tag old) [] entries [] PartSwapped (part_deferred K q tag old m.0.part) two third),
            )
