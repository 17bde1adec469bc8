use mir.Facts.{Fits-lt-pow}
use Rattle.model.specs.Values.{rack}
use Rattle.theory.proofs.LayoutLaws.{byte_list}
use Rattle.listing.proofs.Listed.{of_served, of_refused, served_image}
use Rattle.listfile.proofs.Texts.{printed_as, printed_number, gives_served, gives_refused}
use native.Mathlib.Omega.{arith}
use Rattle.listfile.proofs.list_whole.Goals as goal

pub put_listing-requires : goal.put_listing-requires
put_listing-requires c =
    let file = c.args.file.now in (
      served_image rack file _ (omega arith) (byte_list file (λ i. Fits-lt-pow (c.type_inv.file i)))
          (gives_served c.in-Ok.is c.read_file.ensures),
      c.requires,
    )

pub returns-in-Ok : goal.returns-in-Ok
returns-in-Ok c =
    printed_as (of_served _ (gives_served c.in-Ok.is c.read_file.ensures)) c.put_listing.ensures

pub returns-in-Err : goal.returns-in-Err
returns-in-Err c =
    printed_number c.refusal_number.ensures (of_refused _ (gives_refused c.in-Err.is c.read_file.ensures)) c.put_refused.ensures
