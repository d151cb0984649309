-- Demand 2, the addition: an accepted library with the old strains and the new one, hung in as document 01 says. Assumes nothing.
use Rattle.std.specs.Prelude.{Ok}
use mathlib.Core.Path.{◌≡◌, sym, ◌∙◌, ap, subst}
use mathlib.Core.List.{List}
use Prim.Native.Nat.{ℕ, ◌<◌}
use lib.IntN.{ℤ}
use lib.ListN.{take, drop}
use Rattle.profile.specs.Distance.{Wells}
use Rattle.image.specs.Strains.{strain_of}
use Rattle.image.specs.Library.{Library}
use Rattle.image.specs.Answer.{given}
use Rattle.content.specs.Bytes.{Bytes}
use Rattle.content.specs.Content.{content_of}
use Rattle.content.specs.Adding.{started, parent_for}
use Rattle.build.specs.Calls.{add_of, AddGives}
use Rattle.build.proofs.Theorems.{start_accepted, start_says, start_keeps_rest, add_was_accepted, add_accepted, add_keeps_wells, add_keeps_metric, add_keeps_strains, add_keeps_rest, add_nearest, add_lowest_code, add_grown}
use Rattle.claims.specs.Demand2.{AddedTo, Adding}
use Rattle.claims.proofs.Parts.{answer_is, buffer_is}

module _ (buffer : List ℕ) (stated code : ℕ) (profile : List ℤ) (n : ℕ) (buffer' : List ℕ) (b : Bytes buffer) (code_fits : code < 4294967296) (values : Wells profile)
    (e : AddGives buffer stated code profile (Ok n) buffer') where
  told : (add_of buffer stated code profile).answer ≡ given n
  told = sym (answer_is e)

  left : buffer' ≡ (add_of buffer stated code profile).buffer
  left = buffer_is e

  added_to : AddedTo (take stated buffer) (take n (add_of buffer stated code profile).buffer) code profile
  added_to = record {
    was = add_was_accepted buffer stated code profile b code_fits values n told;
    is = add_accepted buffer stated code profile b code_fits values n told;
    wells = add_keeps_wells buffer stated code profile b code_fits values n told;
    metric = add_keeps_metric buffer stated code profile b code_fits values n told;
    strains = add_keeps_strains buffer stated code profile b code_fits values n told;
    parent = parent_for (content_of (take stated buffer)) profile;
    taker = add_nearest buffer stated code profile b code_fits values n told;
    lowest = add_lowest_code buffer stated code profile b code_fits values n told;
    grown = add_grown buffer stated code profile b code_fits values n told;
  }

pub adding : Adding
adding = record {
  starts = λ wells metric code profile buffer n buffer' code_fits values e.
      let told = sym (answer_is e) in
      subst (λ z. Library (take n z) × (content_of (take n z) ≡ started wells metric (strain_of code profile)) × (drop n z ≡ drop n buffer)) (sym (buffer_is e)) (
        start_accepted wells metric code profile buffer code_fits values n told,
        start_says wells metric code profile buffer code_fits values n told,
        start_keeps_rest wells metric code profile buffer code_fits values n told,
      );
  added = λ buffer stated code profile n buffer' b code_fits values e. (
    subst (λ z. AddedTo (take stated buffer) (take n z) code profile) (sym (left buffer stated code profile n buffer' b code_fits values e))
        (added_to buffer stated code profile n buffer' b code_fits values e),
    ap (drop n) (left buffer stated code profile n buffer' b code_fits values e) ∙ add_keeps_rest buffer stated code profile b code_fits values n (told buffer stated code profile n buffer' b code_fits values e),
  );
}
