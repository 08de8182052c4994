use Rattle.std.proofs.Common.{◌*◌, refl, ap, rules, ◌∙◌, replicate}
use Rattle.epoch_core.proofs.Opened.{opened, sized}
use Rattle.epoch_core.proofs.machine.Machine.open.Goals as goal

pub returns : goal.returns
returns c = let locales = c.from-locales.ensures in let objects = ap (λ n. n * c.args.shape.objects) locales in
    opened _ c.args.start c.args.seats c.requires.shape c.requires.start (record {
      epoch = refl;
      election = refl;
      epochs = sized _ (c.in_ok-vec.ensures.items_if_clones_equal (λ y h. h)) locales;
      elections = sized _ (c.in_ok-vec-2.ensures.items_if_clones_equal (λ y h. h)) locales;
      lists = sized _ (c.in_ok-vec-3.ensures.items_if_clones_equal (λ y h. h)) (ap (λ n. n * 4) locales);
      free_heads = sized _ (c.in_ok-vec-4.ensures.items_if_clones_equal (λ y h. h)) locales;
      home_heads = sized _ (c.in_ok-vec-5.ensures.items_if_clones_equal (λ y h. h)) locales;
      tokens = sized _ (c.in_ok-vec-6.ensures.items_if_clones_equal (λ y h. h)) (ap (λ n. n * c.args.shape.tokens) locales);
      headers = sized _ (c.in_ok-vec-7.ensures.items_if_clones_equal (λ y h. h) ∙ ap (λ h. replicate (c.from-locales.result * c.args.shape.objects) h) c.free_with-free.ensures.value) objects;
      next = c.in_ok-opening_links.ensures;
      tags = sized _ (c.in_ok-vec-8.ensures.items_if_clones_equal (search rules)) objects;
      keepers = sized _ (c.in_ok-vec-9.ensures.items_if_clones_equal (λ y h. h)) objects;
      seats = c.in_ok-opening_seats.ensures;
    }) c.free_with-free.ensures.fits
