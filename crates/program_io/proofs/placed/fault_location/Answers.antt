use Rattle.program_io.proofs.LocationsFound.{placed_text, placeless}
use Rattle.program_io.proofs.placed.fault_location.Goals as goal

pub returns-in-Ok : goal.returns-in-Ok
returns-in-Ok c = placed_text c.args.input.now c.in-Ok.text.now c.args.path.now c.location_of_path.result c.in-Ok.ensures.cases.0 c.in-Ok.ensures.cases.1
    c.location_of_path.ensures

pub returns-in-Err : goal.returns-in-Err
returns-in-Err c = placeless c.args.input.now c.args.path.now c.in-Err.ensures.cases.0
