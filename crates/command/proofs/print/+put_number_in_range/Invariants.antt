-- `command::print::put_number_in_range` meets its contract: the digits of a tenth of the number and its last digit are its digits. The measure is the number.
use Rattle.command.proofs.print.+put_number_in_range.Given as goal

abbrev pub decreases-put_number_in_range : goal.decreases-put_number_in_range
decreases-put_number_in_range l = l.value
