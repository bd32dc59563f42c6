-- What a document has, as the definitions say it.
use Rattle.workload_text.specs.declared.workload.Shapes.{Shapes as DocumentShapes}
use Rattle.workload_text.specs.Workloads.{Shapes}

abbrev pub shapes_view : DocumentShapes → Shapes
shapes_view shapes = (shapes.header, shapes.programs.items, shapes.interrupts.items, shapes.ticks)
