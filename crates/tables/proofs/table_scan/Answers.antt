-- `tables::table_scan` meets its contract. Assumes nothing.
use Rattle.tables.proofs.TableLaws.{scan_fills}
use Rattle.tables.proofs.table_scan.Goals as goal

pub returns : goal.returns
returns c = let f = c.parts_of.ensures in scan_fills _ _ _ _ f.one f.two f.own c.send.ensures
