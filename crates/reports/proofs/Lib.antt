mod Printed
mod Calls
mod SheetDockets
mod FilledBands
mod Tellings
mod OneAnswer
