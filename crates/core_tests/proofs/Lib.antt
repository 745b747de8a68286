mod SeatNumbers
